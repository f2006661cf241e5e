-- Places in a text, and the words in which a text is judged line by line.
pub mod Places
pub mod Judging
pub mod Laws
-- How a line is read from its front: checked, and not to be believed.
pub mod Inside
