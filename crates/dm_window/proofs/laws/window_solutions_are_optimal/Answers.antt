use Rattle.dm_stretch.proofs.Optimal.{window_solutions_are_optimal}
use Rattle.dm_window.proofs.laws.window_solutions_are_optimal.Goals as goal

pub returns : goal.returns
returns c = window_solutions_are_optimal
