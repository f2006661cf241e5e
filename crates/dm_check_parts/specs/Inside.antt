pub mod Nodes
pub mod Claimed
pub mod Grounds
pub mod Plans
