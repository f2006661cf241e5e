-- What a feed that grows has given.
pub mod Given
-- What of it is pending, and what was answered.
pub mod Watching
-- What all feeds were answered, one after another.
pub mod Feeds
-- A feed in memory.
pub mod Memory
-- What logs answer of the bytes that feeds are given.
pub mod Sources
