pub mod Alike
pub mod Adding
pub mod Listed
pub mod WorkedParts
pub mod Counting
