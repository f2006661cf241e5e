-- States of loops, and what `csv` has left of a file. Who believes what a file reads as need not read them.
pub mod Reader
pub mod Words
pub mod Values
pub mod Rows
