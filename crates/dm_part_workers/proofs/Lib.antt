pub mod Putting
pub mod Settling
pub mod Emptying
pub mod Back
