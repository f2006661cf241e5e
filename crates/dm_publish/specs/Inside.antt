-- One board and states of loops. Who believes what publishing promises need not read them.
pub mod Changes
pub mod Grouping
pub mod Refreshing
pub mod Turns
