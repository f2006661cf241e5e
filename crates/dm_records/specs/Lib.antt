-- How the lines of a run's text are written, and what is read of them.
pub mod RunLines
pub mod Readings
-- What follows for whole runs.
pub mod Laws
-- How a line is read from its front: checked, and not to be believed.
pub mod Inside
