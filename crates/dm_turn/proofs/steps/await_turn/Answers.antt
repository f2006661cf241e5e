use Rattle.std.proofs.Common.{rules, ap, sym, ◌∙◌, subst, ℕ, ◌≤◌}
use Rattle.dm_turn.proofs.Keeps.{looks}
use Rattle.dm_turn.proofs.steps.await_turn.Goals as goal

pub load-found-requires : goal.load-found-requires
load-found-requires g c = let same = c.loop.invariant.1 in (
  search rules,
  search rules,
  looks g.S.HasHistory.history g.S.HasHistory.base _ _ _ _ c.loop.seat.me c.requires.waits.0 (ap (λ m. m.0.phase) same ∙ c.requires.waits.1)
      (subst (λ (r : ℕ). 1 ≤ r) (sym (ap (λ m. m.0.room) same)) c.requires.seat.1) (ap (λ m. m.1) same ∙ c.requires.seat.2),
)
