-- The lines of a journal, which history bytes carry, what contracts see of a follower, and what it promises.
pub mod Journals
pub mod Followed
pub mod Follower
pub mod Laws
-- How far the lines were read: checked, and not to be believed.
pub mod Inside
