-- How the readers go from bytes to lines. Who believes what a line says need not read them.
pub mod Cuts
pub mod Reading
pub mod Consuming
pub mod Deciding
