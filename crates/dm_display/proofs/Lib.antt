pub mod Displays
