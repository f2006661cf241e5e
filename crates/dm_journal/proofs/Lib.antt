-- Bytes that are given to a follower, and a source that is followed to its end.
pub mod Given
pub mod Followed
