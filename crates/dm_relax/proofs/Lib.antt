pub mod Bounding
pub mod Completion
pub mod Completed
pub mod BoundLaw
pub mod Flagging
pub mod Gathering
pub mod Differences
pub mod Differing
