-- What is told of a journal's lines, and what a follower keeps of them.
pub mod Chains
pub mod Single
pub mod Written
pub mod Carried
pub mod HeaderSteps
pub mod EntrySteps
pub mod Taken
pub mod Advancing
pub mod Longer
pub mod Fronts
pub mod Tails
