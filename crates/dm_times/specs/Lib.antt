-- What events are held to, why rows have no times, and what holds of all rows and their timetables.
pub mod Constraints
pub mod Faults
pub mod Laws
-- States of loops: checked, and not to be believed.
pub mod Inside
