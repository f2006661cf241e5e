-- Checked, so that a reader need not believe them.
pub mod Nodes
pub mod Claims
pub mod Sums
pub mod Gathered
pub mod Chosen
