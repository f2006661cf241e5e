-- Which places are marked, and the first of them.
pub mod Marked
-- Sets of places, which are listed as they come.
pub mod Places
-- Which places of a list are listed as moved.
pub mod Moved
-- States of loops, what a search passes over, and what a set keeps of itself: checked, so that a reader need not believe them.
pub mod Inside
