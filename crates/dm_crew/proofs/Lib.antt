pub mod AtOnce
pub mod Desks
pub mod Gathering
pub mod Sharing
pub mod Days
pub mod Loops
pub mod Displays
