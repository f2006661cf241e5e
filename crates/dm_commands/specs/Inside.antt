pub mod Stages
pub mod Generating
pub mod Checking
pub mod Asking
