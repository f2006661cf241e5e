pub mod AllFeeds
pub mod FewLines
pub mod Following
pub mod Giving
pub mod Sources
