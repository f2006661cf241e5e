-- The rows of a day, and what a timetable, a cost, a refusal, a history, a choice and a relaxed problem of theirs is.
pub mod Rows
pub mod Active
pub mod Timetable
pub mod Cost
pub mod Resolve
pub mod Reach
pub mod Refuse
pub mod History
pub mod Sides
pub mod Decide
pub mod Relax
pub mod Carry
pub mod Touch
pub mod StartFaults
-- What holds of these, and what they give on two small networks.
pub mod Laws
pub mod Harmless
pub mod Examples
pub mod Worked
-- Stages of the start rows: checked, so that a reader need not believe them.
pub mod Inside
