-- When a priced timetable evaluates the relaxed problem of a path, what is marked, and what contracts see of an evaluator.
pub mod Evaluating
pub mod Marks
pub mod Evaluator
-- States of loops, and of a move that is being made: checked, so that a reader need not believe them.
pub mod Inside
