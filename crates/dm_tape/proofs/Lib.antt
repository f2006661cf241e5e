pub mod Leading
pub mod OwnTexts
pub mod Placed
pub mod Single
pub mod Spelled
pub mod Standing
pub mod Steps
pub mod WholeRounds
