-- The events of a network by their scheduled times.
pub mod Schedule
-- How a schedule is made: checked, so that a reader need not believe it.
pub mod Inside
