-- What a reader must believe: Jobs. What stands on the deque meanwhile: Inside.
pub mod Jobs
pub mod Inside
