-- Logs that are settled: they stand in the journal, and are shown.
pub mod Settled
-- What holds of a watch between two rounds, and what a round does.
pub mod Rounds
-- Why a round was not finished.
pub mod Stops
-- What the parts of a round do: checked, and not to be believed.
pub mod Inside
