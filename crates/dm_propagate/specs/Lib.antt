-- What contracts see of an engine, what holds of it between its changes, and which rows a change makes it read.
pub mod Engine
pub mod Reading
-- The events whose times a change moves.
pub mod Moved
-- States of loops, and of a change that is being made: checked, so that a reader need not believe them.
pub mod Inside
