pub mod Naming
pub mod OneBook
pub mod Growing
