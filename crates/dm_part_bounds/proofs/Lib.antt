pub mod Low
pub mod OnePart
