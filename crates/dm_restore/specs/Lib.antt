-- The content of the first block of a journal.
pub mod Heads
-- What is read back from the file of a journal, and why it is refused.
pub mod Restoring
-- What holds at a start.
pub mod Start
-- What the parts of a start give: checked, and not to be believed.
pub mod Inside
