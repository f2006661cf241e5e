-- A history with logs, as a journal keeps it, and when what a crash leaves is safe.
pub mod Books
-- Lives one after the other.
pub mod Lives
