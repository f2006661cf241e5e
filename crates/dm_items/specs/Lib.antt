-- A sink that gathers bytes.
pub mod Gathering
-- What holds of all items in memory.
pub mod Holding
