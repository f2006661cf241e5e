pub mod Fits
pub mod Staging
pub mod OneNetwork
pub mod OneAnswer
pub mod OneOpening
