pub mod Growing
pub mod Sizing
pub mod Ranges
pub mod Timed
pub mod Joined
pub mod Making
pub mod Refusing
