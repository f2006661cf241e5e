-- States of loops. Who believes what a replay promises need not read them.
pub mod Entering
