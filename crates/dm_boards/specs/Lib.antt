-- What contracts see of boards, and what stands on a board in memory.
pub mod Value
pub mod Memory
