-- What shares of a cost, parts and plans by parts are, and what holds of them.
pub mod Weights
pub mod Shares
pub mod Parts
pub mod Kinds
pub mod Sizes
pub mod Sums
pub mod Laws
-- What these give on a small network.
pub mod Worked
