pub mod Fits
pub mod Printed
