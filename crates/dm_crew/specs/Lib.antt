-- A pass of a server as a desk.
pub mod Passes
-- What answering feeds at once comes to.
pub mod AtOnce
-- What boards show in the end.
pub mod Boards
-- Which pass a desk has, and states of a round: checked, and not to be believed.
pub mod Inside
