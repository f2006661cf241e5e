-- How far a feed is as it was answered.
pub mod Comparing
