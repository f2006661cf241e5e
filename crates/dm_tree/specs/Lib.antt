-- What a tree of choices is, what the relaxed problem of a path asks and costs, and what a true and an optimal plan is.
pub mod Trees
pub mod Pending
pub mod Relaxed
pub mod Plans
pub mod Laws
-- States of loops: checked, and not to be believed.
pub mod Inside
-- What these give on a small network.
pub mod Worked
