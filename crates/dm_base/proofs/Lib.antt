pub mod Counts
pub mod Decimals
pub mod Lists
pub mod NumberLemmas
