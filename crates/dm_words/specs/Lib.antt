-- Names, options and ids, what words ask for, and what their readers are seen as; then the same of a server's words.
pub mod Options
pub mod Ids
pub mod Values
pub mod Queries
pub mod Words
pub mod Asked
pub mod Serving
pub mod ServerAsked
-- States of loops: checked, and not to be believed.
pub mod Inside
