-- Plans of windows at an entry, what becomes of them at the last, and their texts.
pub mod Outlooks
pub mod Searching
pub mod Texts
