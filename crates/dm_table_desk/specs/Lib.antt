-- A table as a desk.
pub mod Tables
-- What an entry does to a table: checked, and not to be believed.
pub mod Inside
