-- What is known between the parts of a feed.
pub mod Feeding
