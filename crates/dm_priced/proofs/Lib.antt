pub mod Beside
pub mod Changing
pub mod Limits
pub mod Moves
pub mod Pricing
pub mod Sums
