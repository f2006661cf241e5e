-- What a server answers: what a reader must believe.
pub mod Answers
-- What the calls do to a table that is held: checked, so that a reader need not believe it.
pub mod Inside
