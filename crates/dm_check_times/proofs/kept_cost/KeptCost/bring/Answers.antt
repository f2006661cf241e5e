use Rattle.std.proofs.Common.{List, ℕ, sym, subst, ◌∙◌}
use Rattle.dm_marks.specs.Moved.{ListsMoved}
use Rattle.dm_check_times.proofs.Followed.{lists_moved}
use Rattle.dm_check_times.proofs.kept_cost.KeptCost.bring.Goals as goal

pub follow-requires-clause-moved : goal.follow-requires-clause-moved
follow-requires-clause-moved c =
    subst (λ (listed : List ℕ). ListsMoved c.args.self.now.times c.args.times.now listed) (sym c.places.ensures)
    (lists_moved c.args.moved.now c.args.self.now.times c.args.times.now c.reveal.ensures (c.requires.as_many_moved ∙ sym c.requires.as_many) (c.requires.kept.late.as_many ∙ sym c.requires.as_many)
    (c.requires.noted c.if-is_noted.true))
