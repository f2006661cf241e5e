-- What feeds are answered, when answers, logs and the journal are true, how plans and runs are spelled, and which texts are
-- those of true runs.
pub mod Answers
pub mod Logs
pub mod CoreRun
pub mod PlanTexts
pub mod PlansRead
pub mod SolvedTexts
pub mod SolvedRead
pub mod PlanLaws
pub mod RunTexts
pub mod Runs
-- What follows from that, and what it gives on a small network.
pub mod Laws
pub mod Worked
-- How lines are read: checked, and not to be believed.
pub mod Inside
