pub mod Faults
pub mod Shelf
pub mod Board
pub mod Printing
pub mod Taking
pub mod Calls
pub mod Memory
