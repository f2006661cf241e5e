-- What a generated day comes to.
pub mod Summed
-- Stages of entering a feed: checked, so that a reader need not believe them.
pub mod Inside
