pub mod Behind
pub mod Looked
