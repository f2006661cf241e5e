use Rattle.std.proofs.Common.{ap, sym, ◌∙◌, subst, Some}
use Rattle.std.specs.Mem.Slots.{slots_items}
use Rattle.dm_turn.specs.Passes.{AreAllAbove, PassValue}
use Rattle.dm_turn.proofs.Keeps.{Closes, closes, is_home, home_state}
use Rattle.dm_turn.proofs.Views.{idle_of}
use Rattle.dm_turn.proofs.turn.Turn.close.Given as given
use Rattle.dm_turn.proofs.turn.Turn.close.Goals as goal
use Rattle.dm_turn.proofs.turn.Turn.close.Goals.{After-take-slot}

-- what the pass finds at the end
ended : (g : given.Over) (c : goal.After-take-slot g)
    → Closes g.S.HasHistory.history g.S.HasHistory.base c.self.inside.table.shared.key.opened.value c.self.inside.table.shared.key.seats c.pass.inside.seat.me.0 (slots_items c.close_with-closed.result.slots)
ended g c =
    closes g.S.HasHistory.history g.S.HasHistory.base c.self.inside.table.shared.key.opened.value c.self.inside.table.shared.key.seats c.pass.inside.seat.id c.pass.inside.seat.me.0 _ _
    (idle_of c.pass.inside.seat.me.0.phase (ap (λ v. v.holds) c.pass.view_is ∙ c.requires.idle) c.pass.invariant.called) c.pass.invariant.room
    (ap (λ v. v.room) c.pass.view_is ∙ (c.requires.alone ∙ sym (ap (λ t. t.seats) c.self.view_is))) c.close_with-closed.ensures.values.2

pub unreachable-requires : goal.unreachable-requires
unreachable-requires g c =
    let end = ended g (goal.at.unreachable-requires g c).After-take-slot in
    c.in_default.not-Some end.state (is_home _ _ c.take-slot.ensures.value end.there)

pub returns-clause-history : goal.returns-clause-history
returns-clause-history g c =
    let end = ended g (goal.at.returns-clause-history g c).After-take-slot in
    let same = home_state _ _ (sym c.in-Some.is ∙ is_home _ _ c.take-slot.ensures.value end.there) in
    ap g.S.HasHistory.history same ∙ (end.whole ∙ ap (λ v. v.seen) c.pass.view_is)

pub returns-clause-base : goal.returns-clause-base
returns-clause-base g c =
    let end = ended g (goal.at.returns-clause-base g c).After-take-slot in
    let same = home_state _ _ (sym c.in-Some.is ∙ is_home _ _ c.take-slot.ensures.value end.there) in
    sym (ap (λ v. v.base) c.pass.view_is) ∙ (end.base_is ∙ ap (λ s. Some (g.S.HasHistory.base s)) (sym same))

pub returns-clause-numbers : goal.returns-clause-numbers
returns-clause-numbers g c =
    let end = ended g (goal.at.returns-clause-numbers g c).After-take-slot in
    subst (λ (p : PassValue g.row.S-Base.Denot). AreAllAbove p.opening p.seen p.mine) c.pass.view_is end.numbers
