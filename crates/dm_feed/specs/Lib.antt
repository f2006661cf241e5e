-- The lines of feeds: how bytes are cut into lines and words, what lines and messages say, and how they are spelled.
pub mod Words
pub mod Parts
pub mod Lines
pub mod Feeds
pub mod DueItems
pub mod Joined
pub mod Laws
-- What the readers do between bytes and lines: checked, and not to be believed.
pub mod Inside
