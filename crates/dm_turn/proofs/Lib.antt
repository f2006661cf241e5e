pub mod Fronts
pub mod Views
pub mod Standing
pub mod Keeps
