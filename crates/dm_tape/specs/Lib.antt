-- The text of a round, and what is told of bytes that should begin with one.
pub mod Rounds
pub mod Told
-- Where the line begins that a fault names.
pub mod Begins
-- What holds of all rounds.
pub mod Laws
-- What the reader's parts give: checked, and not to be believed.
pub mod Inside
