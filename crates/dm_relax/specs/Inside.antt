-- States of loops. Who believes what a relaxed problem promises need not read them.
pub mod Flags
pub mod First
pub mod Differing
