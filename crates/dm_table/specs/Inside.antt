-- Stages of a post, and of times that are followed. Who believes what a table promises need not read them.
pub mod Keeping
pub mod Trying
pub mod Noted
