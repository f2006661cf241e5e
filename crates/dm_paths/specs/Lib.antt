-- Choices by place, paths of decisions, flags of what they leave undecided, and what rows show of headways.
pub mod Decisions
pub mod Places
pub mod Flags
pub mod RowsRead
