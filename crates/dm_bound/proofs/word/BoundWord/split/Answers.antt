use Rattle.std.proofs.Common.{rules, ℕ, ◌≤◌, ap, sym, subst}
use Rattle.dm_bound.proofs.Keeps.{splits}
use Rattle.dm_bound.proofs.word.BoundWord.split.Goals as goal

pub split_seat-seat-requires : goal.split_seat-seat-requires
split_seat-seat-requires c = (
  search rules,
  search rules,
  splits _ _ _ _ (subst (λ (r : ℕ). 2 ≤ r) (sym (ap (λ v. v.room) c.hand.view_is)) c.requires.room) c.self.invariant.2,
)
