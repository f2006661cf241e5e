-- What a desk is asked and tells, what a planner gives, and what was answered of a feed over both.
pub mod Desks
pub mod Planning
pub mod Searching
pub mod Answered
pub mod Fed
-- What the answer to one line does: checked, and not to be believed.
pub mod Inside
