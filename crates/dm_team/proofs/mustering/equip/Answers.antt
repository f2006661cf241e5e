use Rattle.std.proofs.Common.{◌∙◌, ap, List, [], ◌∷◌, ◌++◌}
use Rattle.dm_deques.specs.Deques.{TallyValue}
use Rattle.dm_team.specs.Accounts.{Path}
use Rattle.dm_team.proofs.Enlisted.{one_equipped}
use Rattle.dm_team.proofs.mustering.equip.Goals as goal

pub loop-worker-preserved : goal.loop-worker-preserved
loop-worker-preserved g c =
    one_equipped _ _ _ _ _ _ _ c.loop-worker.invariant c.in_ok-lent.ensures.owners c.in_ok-lent.ensures.tallies
    (c.in_ok-push.ensures.items ∙ ap (λ (ts : List (TallyValue Path)). c.loop-worker.purses.items ++ ts ∷ []) c.from_vec.ensures)
