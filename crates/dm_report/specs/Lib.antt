-- What is printed of a run, and the text of a summary.
pub mod Printed
pub mod Summaries
