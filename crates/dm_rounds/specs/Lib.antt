-- What answering feeds in rounds comes to.
pub mod Rounds
-- States of rounds: checked, and not to be believed.
pub mod Inside
