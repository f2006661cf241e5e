-- Feeds of which nothing was read, and a life over a store in which nothing was served.
pub mod Feeds
pub mod Firsts
