-- What one life leaves to the next.
pub mod Laws
-- A start over what was not synced yet.
pub mod Starts
-- Feeds that only grow from one life to the next.
pub mod Growth
-- What the text of such a store is refused for.
pub mod Texts
-- What run lives are.
pub mod Runs
