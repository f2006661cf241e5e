-- What the journal of a text carries.
pub mod Journals
-- A text that is given piece by piece: checked, and not to be believed.
pub mod Inside
