pub mod Bounds
pub mod Filled
pub mod Meeting
