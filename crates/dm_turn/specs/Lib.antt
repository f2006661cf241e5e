-- What a reader must believe: Passes. The rule that the lock keeps: Rule. What each step tells: Inside.
pub mod Passes
pub mod Rule
pub mod Inside
