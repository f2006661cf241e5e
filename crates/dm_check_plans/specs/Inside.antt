pub mod Flags
pub mod Paths
pub mod Moves
pub mod Violations
pub mod Timetables
pub mod Visiting
pub mod Leaves
pub mod Judged
