use Rattle.std.proofs.Common.{ℕ, ◌≤◌, ap, sym, ◌∙◌, subst}
use mathlib.Core.Option.{some-injective}
use lib.ListN.{get_elem?}
use Rattle.dm_bound.specs.Words.{lowest, HandValue}
use Rattle.dm_bound.proofs.Keeps.{closes}
use Rattle.dm_bound.proofs.word.BoundWord.close.Goals as goal

least_of : goal.returns-clause-least
least_of c =
    let seat = c.hand.inside.seat in let key = c.self.inside.table.shared.key in
    let end = closes key.start key.seats seat.id seat.me.0 _ _ c.hand.invariant.room
    (ap (λ v. v.room) c.hand.view_is ∙ (c.requires.alone ∙ sym (ap (λ t. t.seats) c.self.view_is))) c.close_with-closed.ensures.values.2 in
    some-injective c.word-least.result (lowest seat.me.0.start seat.me.0.lowered)
    (sym c.word-least.ensures ∙ ap (λ ws. get_elem? ws 0) end.0) ∙ ap (λ (h : HandValue). lowest h.start h.lowered) c.hand.view_is

pub returns-clause-least : goal.returns-clause-least
returns-clause-least c = least_of c

pub returns-clause-looked : goal.returns-clause-looked
returns-clause-looked c =
    let seat = c.hand.inside.seat in let key = c.self.inside.table.shared.key in
    let end = closes key.start key.seats seat.id seat.me.0 _ _ c.hand.invariant.room
    (ap (λ v. v.room) c.hand.view_is ∙ (c.requires.alone ∙ sym (ap (λ t. t.seats) c.self.view_is))) c.close_with-closed.ensures.values.2 in
    subst (λ (n : ℕ). n ≤ c.args.hand.looked) (sym (least_of c)) (subst (λ (h : HandValue). lowest h.start h.lowered ≤ h.looked) c.hand.view_is end.1)
