pub mod Causes
pub mod Settling
pub mod Showing
