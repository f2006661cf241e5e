-- The lines of a part, beside the items that answer them.
pub mod Comparing
-- A feed of which more is read and passed.
pub mod Passing
