-- What the judges compute. Who believes what is told need not read it.
pub mod Blocks
pub mod Planning
pub mod Gathering
pub mod TrueLogs
pub mod Sound
