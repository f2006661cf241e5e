-- What contracts see of a table, what holds of it, and what it answers.
pub mod Value
pub mod Answers
-- Stages of a post: checked, so that a reader need not believe them.
pub mod Inside
