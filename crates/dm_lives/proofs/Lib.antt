-- What one life leaves is taken up.
pub mod Again
-- What is refused of it.
pub mod Refusals
-- What a log answers of feeds that grow.
pub mod Growth
-- What is refused where feeds only grow.
pub mod Complete
-- What the text of a store is refused for.
pub mod Texts
-- What a store in which nothing was served holds.
pub mod New
-- A start over what was not synced yet.
pub mod Synced
-- What run lives are.
pub mod Runs
-- What the first items of a log answer.
pub mod Cut
