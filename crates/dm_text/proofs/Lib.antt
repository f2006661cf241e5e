-- What is read from the front of a line, and what that says of the line.
pub mod Counted
pub mod Cutting
pub mod Reading
pub mod Judged
