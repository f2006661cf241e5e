use Rattle.std.proofs.Common.{ℕ, ◌≡◌, ◌+◌, List, length, sym, ap, subst, ◌∙◌, Option, [], Vec}
use Rattle.std.specs.Prelude.{◌↔◌}
use Rattle.std.specs.Vec.{with_items}
use Rattle.std.proofs.lemmas.List.{with_items_is}
use Rattle.std.proofs.lemmas.Result.{IfOk-weaker}
use Rattle.std.proofs.lemmas.List.FromFn.{length-map-range_with_len}
use Rattle.dm_journey.specs.declared.reaching.Reach.{Reach}
use Rattle.dm_journey.specs.Walks.{is_usable}
use Rattle.dm_journey.specs.Journeys.{AreJourneys, HasNoWalk}
use Rattle.dm_journey.specs.Inside.Reaching.{boarding_at, HasReachedAll}
use Rattle.dm_journey.specs.Inside.Arriving.{AreFound}
use Rattle.dm_journey.proofs.WithoutCycle.{flags_are, usable_no_headway}
use Rattle.dm_journey.proofs.Answered.{answers, none_exactly, are_beginnings}
use Rattle.dm_journey.proofs.arriving.journeys.Goals as goal

pub order_of-requires-clause-as_many : goal.order_of-requires-clause-as_many
order_of-requires-clause-as_many c =
    ap length (c.deref.ensures.value ∙ c.in_ok-usable.ensures)
    ∙ length-map-range_with_len (is_usable c.args.net.now c.args.rows.now c.args.times.now) 0 (length c.args.net.now.activities)

pub order_of-requires-clause-no_headway : goal.order_of-requires-clause-no_headway
order_of-requires-clause-no_headway c = λ a below held.
    usable_no_headway c.args.net.now c.args.rows.now c.args.times.now a
    (sym (flags_are c.args.net.now (is_usable c.args.net.now c.args.rows.now c.args.times.now) c.deref.result.now (c.deref.ensures.value ∙ c.in_ok-usable.ensures) a below) ∙ held)

pub reach_all-requires-clause-flags : goal.reach_all-requires-clause-flags
reach_all-requires-clause-flags c =
    ap length (c.deref-2.ensures.value ∙ c.in_ok-usable.ensures)
    ∙ length-map-range_with_len (is_usable c.args.net.now c.args.rows.now c.args.times.now) 0 (length c.args.net.now.activities)

pub reach_all-requires-clause-as_many : goal.reach_all-requires-clause-as_many
reach_all-requires-clause-as_many c =
    ap length (c.deref_mut.ensures.value ∙ c.in_ok-reached.ensures)
    ∙ length-map-range_with_len (boarding_at c.args.net.now c.args.times.now c.args.from c.args.after) 0 (length c.args.net.now.events)

pub reach_all-requires-clause-beginnings : goal.reach_all-requires-clause-beginnings
reach_all-requires-clause-beginnings c =
    are_beginnings c.args.net.now c.args.times.now c.args.from c.args.after c.deref_mut.result.now (c.deref_mut.ensures.value ∙ c.in_ok-reached.ensures)

-- what was written, as a list
written : {X Z : Type 0} (v : Vec X Z) (xs : List X) (n : ℕ) → length xs ≡ n → length v.items ≡ n → (with_items v xs).items ≡ xs
written v xs n a b = with_items_is v xs (a ∙ (sym b ∙ sym v.ok.0))

pub returns-clause-answer : goal.returns-clause-answer
returns-clause-answer c =
    let shown : c.deref-3.result.now ≡ c.reach_all.new.reached =
    c.deref-3.ensures.value
    ∙ written c.in_ok-reached.reached c.reach_all.new.reached (length c.args.net.now.events) c.reach_all.ensures.reached.as_many
    (ap length c.in_ok-reached.ensures
    ∙ length-map-range_with_len (boarding_at c.args.net.now c.args.times.now c.args.from c.args.after) 0 (length c.args.net.now.events)) in
    let has : HasReachedAll c.args.net.now c.deref-2.result.now c.in_ok-search.search.ranks c.args.most c.deref_mut.result.now c.deref-3.result.now =
    subst (λ (now : List (Option Reach)). HasReachedAll c.args.net.now c.deref-2.result.now c.in_ok-search.search.ranks c.args.most c.deref_mut.result.now now)
    (sym shown) c.reach_all.ensures in
    IfOk-weaker c.found.result
    (λ v. AreFound c.args.net.now c.args.times.now c.args.to c.in_ok-search.search.ranks c.deref-3.result.now (c.args.most + 1) v.items)
    (λ v. AreJourneys c.args.net.now c.args.rows.now c.args.times.now c.args.from c.args.to c.args.after c.args.most v.items)
    (λ v found.
    answers c.args.net.now c.args.rows.now c.args.times.now c.args.from c.args.to c.args.after c.args.most c.deref-2.result.now c.in_ok-search.search.ranks
    c.deref_mut.result.now c.deref-3.result.now (c.deref-2.ensures.value ∙ c.in_ok-usable.ensures) (c.deref_mut.ensures.value ∙ c.in_ok-reached.ensures)
    has v.items found)
    c.found.ensures

pub returns-clause-none : goal.returns-clause-none
returns-clause-none c =
    IfOk-weaker c.found.result
    (λ v. AreJourneys c.args.net.now c.args.rows.now c.args.times.now c.args.from c.args.to c.args.after c.args.most v.items)
    (λ v. (v.items ≡ []) ↔ HasNoWalk c.args.net.now c.args.rows.now c.args.times.now c.args.from c.args.to c.args.after c.args.most)
    (λ v are. none_exactly c.args.net.now c.args.rows.now c.args.times.now c.args.from c.args.to c.args.after c.args.most v.items are)
    (returns-clause-answer c)
