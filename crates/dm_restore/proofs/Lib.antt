pub mod Backs
pub mod Named
pub mod Files
pub mod HeadsRead
pub mod Known
pub mod Judged
pub mod ReadRounds
