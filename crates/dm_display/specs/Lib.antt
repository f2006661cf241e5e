-- Boards that are kept up with a table.
pub mod Displays
