pub mod Added
pub mod Rows
pub mod Claimed
pub mod Replayed
