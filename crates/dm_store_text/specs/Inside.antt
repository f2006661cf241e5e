-- How the text of a store ends, at every status.
pub mod Ending
