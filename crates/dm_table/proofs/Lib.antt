pub mod Kept
pub mod Tried
pub mod Followed
pub mod Noting
