-- What a task may be, and which plans it asks for.
pub mod Posed
pub mod Tasks
