-- Lives of a server, each begun with what a crash left.
pub mod Lives
-- What the text of a server's end is.
pub mod Served
-- How a server ends otherwise, and why.
pub mod Ends
-- Stages of a server.
pub mod Inside
