use Rattle.dm_stretch.specs.Inside.Thinning.{AreJudged}
use Rattle.dm_stretch.proofs.thinning.judge_each.Given as goal

abbrev pub invariant-loop-place : goal.invariant-loop-place
invariant-loop-place l = AreJudged l.net l.rows l.penalty l.decisions l.place l.costs.items
