-- What a network is, which of its activities are held and what cycles they make, what binds at the start, and which
-- network the records of two files make.
pub mod Net
pub mod Pairs
pub mod Held
pub mod Start
pub mod Build
-- Rows of places in flat lists, and the stages of a build: checked, so that a reader need not believe them.
pub mod Inside
