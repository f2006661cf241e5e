-- What contracts see of a history, and which of a list of entries is refused.
pub mod Value
pub mod Replay
-- One entry of a replay: checked, and not to be believed.
pub mod Inside
