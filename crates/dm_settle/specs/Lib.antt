-- What a timetable is held to; and when a sweep may be made, what it leaves and which rows it reads.
pub mod Constraints
pub mod Settling
-- An event that gets another time, of which watchers are told.
pub mod Moving
-- States of loops and of the sweep: checked, so that a reader need not believe them.
pub mod Inside
