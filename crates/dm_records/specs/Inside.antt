-- What the readers compute.
pub mod Fields
pub mod Kinds
pub mod Answers
pub mod Items
