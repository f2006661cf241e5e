-- A decision that is made or taken back: from the relaxed problem of one path to that of the other.
use Rattle.std.proofs.Common.{◌≡◌, ℕ, ◌<◌, Bool, true, false, cond, List, length, sym, ap, ◌∙◌, arith, slice_index}
use Rattle.std.proofs.lemmas.Grind.{same_number_lists}
use Rattle.dm_network.specs.Net.{Net}
use Rattle.dm_network.specs.Held.{is_held, IsCycleOf}
use Rattle.dm_network.specs.Start.{IsNetwork}
use Rattle.dm_rows.specs.declared.messages.Decision.{Decision}
use Rattle.dm_rows.specs.declared.messages.Flip.{Flip}
use Rattle.dm_rows.specs.Rows.{RowsValue, IsSized}
use Rattle.dm_rows.specs.Decide.{IsChoiceList, with_decisions}
use Rattle.dm_rows.specs.Relax.{is_relaxed_active, is_relaxed_lost}
use Rattle.dm_paths.proofs.Setting.{DiffersInDecisions, differs_in_none, differs_with}
use Rattle.dm_paths.proofs.Agreeing.{has_passed_same, cancelled_same, span_same, floor_same}
use Rattle.dm_live.specs.Live.{is_fixed}
use Rattle.dm_priced.specs.Priced.{PricedValue, IsPriced, is_flagged}
use Rattle.dm_tree.specs.Relaxed.{IsRelaxedLeast, IsRelaxedCycle}
use Rattle.dm_evaluate.specs.Evaluating.{Evaluates}
use Rattle.dm_paths.specs.Decisions.{AddsDecision, IsFlipOf}
use Rattle.dm_evaluate.specs.Inside.Moves.{set_where, Turns, Stays, IsOff}
use Rattle.dm_paths.specs.Decisions.{is_held_by, is_charged_by}
use Rattle.dm_network.proofs.Holding.{cycle_with}
use Rattle.dm_paths.proofs.Changing.{DiffersAt, set_off, set_on, held_differs as held_apart, charge_differs as charge_apart}

-- the numbers and the passed events are those of any path
module _ (net : Net) (rows : RowsValue) (path other : List Decision) where
  over : (ds : List Decision) → DiffersInDecisions rows (with_decisions net rows ds)
  over ds = differs_with net rows rows ds (differs_in_none rows)

  pub evaluates_other : (before after : PricedValue) → Evaluates net rows path before → IsPriced net after →
      ((b : ℕ) → b < length net.activities → is_held after.live.given.held b ≡ is_relaxed_active net rows other b) →
      ((b : ℕ) → b < length net.activities → is_flagged after.charged b ≡ is_relaxed_lost net rows other b) →
      after.live.fixed ≡ before.live.fixed → after.passed ≡ before.passed → after.cancelled ≡ before.cancelled → after.live.given.floors ≡ before.live.given.floors → after.live.given.spans ≡ before.live.given.spans →
      Evaluates net rows other after
  evaluates_other before after is priced held charged fixed passed cancelled floors spans =
      let q : RowsValue = with_decisions net rows path in
      let s : RowsValue = with_decisions net rows other in
      record {
        is_priced = priced;
        none_fixed = λ i. ap (λ (f : List Bool). is_fixed f i) fixed ∙ is.none_fixed i;
        held = held;
        floors = λ i lt. ap (λ (xs : List ℕ). slice_index xs i) floors ∙ is.floors i lt ∙ floor_same rows q (over path) net i
            ∙ sym (floor_same rows s (over other) net i);
        price = record {
          passed = λ i lt. ap (λ (xs : List Bool). is_flagged xs i) passed ∙ is.price.passed i lt ∙ has_passed_same rows q (over path) i
              ∙ sym (has_passed_same rows s (over other) i);
          cancelled = λ i lt. ap (λ (xs : List Bool). is_flagged xs i) cancelled ∙ is.price.cancelled i lt ∙ cancelled_same rows q (over path) i
              ∙ sym (cancelled_same rows s (over other) i);
          charged = charged;
          spans = λ a lt. ap (λ (xs : List ℕ). slice_index xs a) spans ∙ is.price.spans a lt ∙ span_same rows q (over path) net a
              ∙ sym (span_same rows s (over other) net a);
        };
      }

-- what a decision holds and charges for is set
pub turned_evaluates : (net : Net) (rows : RowsValue) (path other : List Decision) (flip : Flip) (value : Bool) (before after : PricedValue) →
    ((b : ℕ) → b < length net.activities → cond (is_held_by net flip b) value (is_relaxed_active net rows path b) ≡ is_relaxed_active net rows other b) →
    ((b : ℕ) → b < length net.activities → cond (is_charged_by flip b) value (is_relaxed_lost net rows path b) ≡ is_relaxed_lost net rows other b) →
    Evaluates net rows path before → IsPriced net after → Turns net flip value before after → Evaluates net rows other after
turned_evaluates net rows path other flip value before after held charged was priced turns =
    evaluates_other net rows path other before after was priced
    (λ b lt. turns.held b lt ∙ ap (λ v. cond (is_held_by net flip b) value v) (was.held b lt) ∙ held b lt)
    (λ b lt. turns.charged b lt ∙ ap (λ v. cond (is_charged_by flip b) value v) (was.price.charged b lt) ∙ charged b lt)
    turns.fixed turns.passed turns.cancelled turns.floors turns.spans

-- what is held and charged for stays
pub stays_evaluates : (net : Net) (rows : RowsValue) (path : List Decision) (before after : PricedValue) → Evaluates net rows path before → IsPriced net after →
    Stays net before after → Evaluates net rows path after
stays_evaluates net rows path before after is priced stays =
    evaluates_other net rows path path before after is priced (λ b lt. stays.held b lt ∙ is.held b lt) (λ b lt. stays.charged b lt ∙ is.price.charged b lt)
    stays.fixed stays.passed stays.cancelled stays.floors stays.spans

module _ (net : Net) (network : IsNetwork net) (rows : RowsValue) (sized : IsSized net rows) (path other : List Decision)
    (list : IsChoiceList net rows path) (other_list : IsChoiceList net rows other) (d : Decision) (adds : AddsDecision path other d) where
  held_differs : (flip : Flip) → IsFlipOf net rows d flip → (b : ℕ) → b < length net.activities →
      DiffersAt (is_held_by net flip b) (is_relaxed_active net rows path b) (is_relaxed_active net rows other b)
  held_differs = held_apart net network rows sized path other list other_list d adds

  charge_differs : (flip : Flip) → IsFlipOf net rows d flip → (b : ℕ) → b < length net.activities →
      DiffersAt (is_charged_by flip b) (is_relaxed_lost net rows path b) (is_relaxed_lost net rows other b)
  charge_differs = charge_apart net network rows sized path other list other_list d adds

  module _ (flip : Flip) (is : IsFlipOf net rows d flip) (before after : PricedValue) where
    pub decided_evaluates : Evaluates net rows path before → IsPriced net after → Turns net flip true before after → Evaluates net rows other after
    decided_evaluates =
        turned_evaluates net rows path other flip true before after
        (λ b lt. set_on (is_held_by net flip b) (is_relaxed_active net rows path b) (is_relaxed_active net rows other b) (held_differs flip is b lt))
        (λ b lt. set_on (is_charged_by flip b) (is_relaxed_lost net rows path b) (is_relaxed_lost net rows other b) (charge_differs flip is b lt))

    pub undecided_evaluates : Evaluates net rows other before → IsPriced net after → Turns net flip false before after → Evaluates net rows path after
    undecided_evaluates =
        turned_evaluates net rows other path flip false before after
        (λ b lt. set_off (is_held_by net flip b) (is_relaxed_active net rows path b) (is_relaxed_active net rows other b) (held_differs flip is b lt))
        (λ b lt. set_off (is_charged_by flip b) (is_relaxed_lost net rows path b) (is_relaxed_lost net rows other b) (charge_differs flip is b lt))

  module _ (flip : Flip) (is : IsFlipOf net rows d flip) (before : PricedValue) (was : Evaluates net rows path before) where
    pub is_off : IsOff net flip before
    is_off b lt on = was.held b lt ∙ (held_differs flip is b lt).off on

    pub decision_cycle : (cycle : List ℕ) → IsCycleOf net (set_where (is_held_by net flip) true (is_held before.live.given.held)) cycle →
        IsRelaxedCycle net rows other cycle
    decision_cycle cycle c =
        cycle_with net (set_where (is_held_by net flip) true (is_held before.live.given.held)) (is_relaxed_active net rows other)
        (λ b lt h. sym (set_on (is_held_by net flip b) (is_relaxed_active net rows path b) (is_relaxed_active net rows other b) (held_differs flip is b lt))
        ∙ sym (ap (λ v. cond (is_held_by net flip b) true v) (was.held b lt)) ∙ h)
        cycle c

-- a relaxed problem has one least timetable
pub one_relaxed_least : (net : Net) (rows : RowsValue) (path : List Decision) (x y : List ℕ) → IsRelaxedLeast net rows path x → IsRelaxedLeast net rows path y → x ≡ y
one_relaxed_least net rows path x y of_x of_y =
    let size = of_x.meets.size in
    same_number_lists x y (of_x.meets.size ∙ sym of_y.meets.size)
    (λ k lt. let below : k < length net.events = omega arith in
    let down = of_x.earliest y of_y.meets k below in
    let up = of_y.earliest x of_x.meets k below in
    omega arith)
