use Rattle.dm_stretch.proofs.Optimal.{window_plans_are_optimal}
use Rattle.dm_window.proofs.laws.window_plans_are_optimal.Goals as goal

pub returns : goal.returns
returns c = window_plans_are_optimal
