-- What is asked of the relaxed problem of a path that is kept, of the nodes of a tree that are visited in preorder, and of choices.
pub mod RelaxedProblems
pub mod Visiting
pub mod Choosing
-- States of loops and stages: checked, and not to be believed. What a true plan is stands in dm_tree.
pub mod Inside
