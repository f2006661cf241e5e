pub mod WordLists
pub mod Numbering
pub mod OneCommand
pub mod Asking
pub mod ServerWords
