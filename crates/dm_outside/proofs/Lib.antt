pub mod Printing
pub mod Taking
pub mod Files
