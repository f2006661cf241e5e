pub mod Lowest
pub mod Standing
pub mod Keeps
