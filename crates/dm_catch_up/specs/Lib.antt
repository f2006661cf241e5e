-- Feeds that go on with what was answered of them, and those that do not.
pub mod Feeds
-- Feeds that are caught up with.
pub mod Catching
-- Stages of a comparison.
pub mod Inside
