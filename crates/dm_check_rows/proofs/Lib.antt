pub mod AtOnce
pub mod Acceptance
pub mod Telling
pub mod Walked
pub mod OneCause
pub mod Refused
