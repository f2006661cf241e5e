-- What a search does with a path, from what it ends with a true plan, and what holds of all true plans.
pub mod Steps
pub mod Moving
pub mod Finish
pub mod Laws
-- States of loops: checked, and not to be believed.
pub mod Inside
