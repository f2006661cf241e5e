-- What becomes of boards, what a run's text is, which logs answer its feeds, what is printed of generated days, of checked texts and
-- of what is asked of a journal, and how a call ends.
pub mod Searching
pub mod Commands
pub mod Generated
pub mod Verdicts
pub mod Checked
pub mod Followed
pub mod Ruled
pub mod Travelled
pub mod Windowed
pub mod Answers
pub mod Boards
pub mod Optimal
pub mod Headline
pub mod Feeds
pub mod Ends
-- Stages of a run: checked, so that a reader need not believe them.
pub mod Inside
