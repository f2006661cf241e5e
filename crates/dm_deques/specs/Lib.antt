-- What a reader must believe: Deques, Rule. What each step tells: Inside.
pub mod Rule
pub mod Deques
pub mod Sharing
pub mod Inside
