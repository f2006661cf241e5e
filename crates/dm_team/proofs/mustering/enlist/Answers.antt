use Rattle.std.proofs.Common.{ℕ, ◌+◌, ap, ◌∙◌}
use Rattle.dm_team.proofs.Enlisted.{one_enlisted}
use Rattle.dm_team.proofs.mustering.enlist.Goals as goal

pub loop-other-preserved : goal.loop-other-preserved
loop-other-preserved g c =
    let inv = c.loop-other.invariant in
    let more = one_enlisted _ _ _ _ _ _ c.in_ok-push-4.ensures.items c.in_ok-push-3.ensures.items c.in_ok-thief-2.ensures c.in_ok-owner.ensures
    inv.thieves inv.root inv.new in
    record { many = more.3 ∙ ap (λ (n : ℕ). n + 1) inv.many; thieves = more.0; root = more.1; new = more.2 }
