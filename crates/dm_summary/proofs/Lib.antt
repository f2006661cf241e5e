pub mod Posting
pub mod Wanting
pub mod Told
