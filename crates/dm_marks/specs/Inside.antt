-- Words of bits, and how many places are listed.
pub mod Words
pub mod Listing
