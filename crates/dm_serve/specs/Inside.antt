-- Feeds as they are opened.
pub mod Opening
-- Reply files at its start.
pub mod Replies
-- How it begins, goes round and ends.
pub mod Stages
-- Why it does not begin.
pub mod Telling
