pub mod Distinct
pub mod Gathered
pub mod Ordered
pub mod Ruled
pub mod Deciding
pub mod Bounded
pub mod Single
pub mod Differing
