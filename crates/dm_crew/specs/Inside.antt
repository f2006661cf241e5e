pub mod Seats
pub mod Works
pub mod Displays
