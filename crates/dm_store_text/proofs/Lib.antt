-- The numbers of words, and that the files that they name determine rows without a cycle.
pub mod Within
-- The text of a run that was read back.
pub mod ReadBack
-- How the text of a store ends.
pub mod Closing
-- What is not refused.
pub mod Complete
