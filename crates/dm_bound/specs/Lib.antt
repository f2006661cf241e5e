-- What a reader must believe: Words. The rule that the word keeps: Rule. What each step tells: Inside.
pub mod Words
pub mod Rule
pub mod Inside
