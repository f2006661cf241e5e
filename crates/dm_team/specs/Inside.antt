pub mod Working
pub mod Workers
pub mod Gathering
pub mod Together
pub mod Teams
pub mod Planning
