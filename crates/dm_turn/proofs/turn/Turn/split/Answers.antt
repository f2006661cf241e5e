use Rattle.std.proofs.Common.{rules, ℕ, ◌≤◌, ap, sym, subst}
use Rattle.dm_turn.proofs.Keeps.{splits}
use Rattle.dm_turn.proofs.turn.Turn.split.Goals as goal

pub split_seat-seat-requires : goal.split_seat-seat-requires
split_seat-seat-requires g c = (
  search rules,
  search rules,
  splits g.S.HasHistory.history g.S.HasHistory.base _ _ _ _ (subst (λ (r : ℕ). 2 ≤ r) (sym (ap (λ v. v.room) c.pass.view_is)) c.requires.room),
)
