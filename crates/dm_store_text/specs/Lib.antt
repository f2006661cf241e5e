-- What the words of `serve` and `text` ask for.
pub mod Asked
-- What becomes of the files that they name.
pub mod Files
-- The lines that are printed in place of a run.
pub mod Lines
-- What is written at an end, with its status.
pub mod Written
-- What the text of a store is, and why there is none.
pub mod Texts
-- What is not refused of a journal.
pub mod Laws
-- How its stages end: checked, so that a reader need not believe them.
pub mod Inside
