-- How a head is read.
pub mod HeadLines
-- What is read from the blocks behind it.
pub mod Reading
-- What items enter.
pub mod Entering
-- What is read from a file before that.
pub mod Logs
-- What is told of the run that is read back.
pub mod Judging
