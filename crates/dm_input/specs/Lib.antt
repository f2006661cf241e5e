-- What words and files determine, in which order they are refused, and the lines that say why.
pub mod Input
pub mod Stops
pub mod Order
pub mod Lines
-- Stages of reading: checked, and not to be believed.
pub mod Inside
