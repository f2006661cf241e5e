use Rattle.std.proofs.Common.{length}
use Rattle.dm_stretch.specs.Inside.Thinning.{AreJudged, IsThinned}
use Rattle.dm_stretch.proofs.thinning.thin.Given as goal

abbrev pub invariant-loop-place : goal.invariant-loop-place
invariant-loop-place l =
    IsThinned l.net l.rows l.penalty l.planned l.spent l.most l.kept.items l.cost
    × AreJudged l.net l.rows l.penalty l.kept.items (length l.kept.items) l.costs.items

abbrev pub decreases-loop-place : goal.decreases-loop-place
decreases-loop-place l = length l.kept.items
