-- States of loops. Who believes what a search promises need not read them.
pub mod Searching
pub mod Ending
pub mod Walking
