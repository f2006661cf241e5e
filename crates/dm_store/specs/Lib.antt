pub mod Blocks
pub mod Calls
pub mod Fronts
pub mod Inside
pub mod Journals
pub mod Laws
pub mod Worked
pub mod Memory
