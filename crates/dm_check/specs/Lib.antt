-- How the lines of a run's text are written, and which is the first record that breaks its rule.
pub mod FalseRecords
-- The word of a kind of fault.
pub mod KindWords
pub mod Judged
pub mod Laws
-- What the verdicts on texts say of runs.
pub mod Truth
-- What the judges compute: checked, and not to be believed.
pub mod Inside
