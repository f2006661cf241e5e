pub mod WithoutCycle
pub mod StopRows
pub mod Reached
pub mod Traced
pub mod Chosen
pub mod Answered
