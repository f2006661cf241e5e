-- The numbers that are drawn, the events of trains, the activities between them, and the feed.
pub mod Draws
pub mod Trains
pub mod Activities
pub mod Feed
pub mod Laws
-- That nothing refuses a generated day.
pub mod Sound
