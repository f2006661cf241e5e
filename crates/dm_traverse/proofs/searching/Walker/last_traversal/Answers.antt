use Rattle.dm_traverse.proofs.Limits.{used_lower}
use Rattle.dm_traverse.proofs.searching.Walker.last_traversal.Goals as goal

pub returns-clause-used : goal.returns-clause-used
returns-clause-used c = λ k h. used_lower _ _ _ _ k c.in_ok-searched.ensures.no_dearer (c.in_ok-searched.ensures.used k h)
