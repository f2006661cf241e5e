-- What the relaxed problem of a path gives, what completes a path, and what holds of all relaxed problems.
pub mod Relaxed
pub mod Complete
pub mod Laws
-- States of loops: checked, and not to be believed.
pub mod Inside
