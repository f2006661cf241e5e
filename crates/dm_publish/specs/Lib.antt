-- What boards show and tell, what contracts see of a publisher, what publishing does, and what it does time after time.
pub mod Shown
pub mod Value
pub mod Publishing
pub mod Since
-- One board, and states of loops: checked, and not to be believed.
pub mod Inside
