-- What contracts see of a priced timetable, and what it costs.
pub mod Priced
-- States of loops: checked, so that a reader need not believe them.
pub mod Inside
