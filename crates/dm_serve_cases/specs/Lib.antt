-- A life over a store and feeds in memory.
pub mod Worked
