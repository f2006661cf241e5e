-- What contracts see of a timetable that is kept, what holds of it between its moves, and which rows it reads.
pub mod Live
-- States of loops: checked, so that a reader need not believe them.
pub mod Inside
