-- What a crash leaves at a start.
pub mod Safe
-- What was shown stays.
pub mod Stays
-- A store that is only looked at.
pub mod Looked
-- What a store holds, read back.
pub mod ReadBack
-- A journal that is taken up.
pub mod Begun
-- Reply files that are put anew.
pub mod Answering
-- A watch that begins with a true book.
pub mod Standing
-- Rounds, one after another.
pub mod Gone
-- The text of a run.
pub mod Printed
-- Feeds as they are opened and caught up with.
pub mod Caught
-- Feeds that go on with their logs.
pub mod GoingOn
-- Lists that are gone through.
pub mod Lists
-- What is due at each end.
pub mod Closing
-- The end of a day.
pub mod Ended
-- A server that does not begin.
pub mod Stopping
-- What was found, while it is taken up.
pub mod Taking
-- What was read back, over a network.
pub mod Overs
