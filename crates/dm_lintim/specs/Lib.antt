-- How a file is cut into records and cells, which columns a file has, and what its records read as.
pub mod Pieces
pub mod Split
pub mod Columns
pub mod Files
-- States of loops: checked, and not to be believed.
pub mod Inside
