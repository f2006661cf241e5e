use Rattle.dm_stretch.proofs.Optimal.{window_plans_decide_once}
use Rattle.dm_window.proofs.laws.window_plans_decide_once.Goals as goal

pub returns : goal.returns
returns c = window_plans_decide_once
