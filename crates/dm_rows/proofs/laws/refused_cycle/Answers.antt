use Rattle.std.proofs.Common.{[], ◌∷◌, refl, arith, inl, inr}
use Rattle.dm_network.specs.Held.{IsCycleOf}
use Rattle.dm_rows.specs.declared.messages.Message.TheVariants.{First}
use Rattle.dm_rows.specs.declared.messages.Refusal.{Refusal}
use Rattle.dm_rows.specs.declared.messages.Refusal.TheVariants.{Range, UnknownEvent, UnknownActivity, UnknownChange, UnknownPair, Passed, NotPassed, Cancelled, NotCancelled, Locked, NotLocked, Back, Cycle, Full, OutOfMemory}
use Rattle.dm_rows.specs.Rows.{RowsValue}
use Rattle.dm_rows.specs.Active.{ShowsCycle, is_active}
use Rattle.dm_rows.specs.Examples.{event_id, activity_id, turnaround, turnaround_at_start}
use Rattle.dm_rows.specs.Refuse.{RefusesFirst}
use Rattle.dm_rows.specs.Resolve.{after}
use Rattle.dm_rows.proofs.laws.refused_cycle.Goals as goal

abbrev turned : RowsValue
turned = after turnaround turnaround_at_start (First (event_id 5) (event_id 3))

closed : IsCycleOf turnaround (is_active turnaround turned) (2 ∷ 7 ∷ 6 ∷ [])
closed = (
  record { is_arc = omega arith; is_held = refl; from_event = omega arith; to_event = omega arith },
  refl,
  (
    record { is_arc = omega arith; is_held = refl; from_event = omega arith; to_event = omega arith },
    refl,
    (record { is_arc = omega arith; is_held = refl; from_event = omega arith; to_event = omega arith }, refl, refl),
  ),
)

shows : ShowsCycle turnaround turned (activity_id 3 ∷ activity_id 8 ∷ activity_id 7 ∷ [])
shows = record { places = 2 ∷ 7 ∷ 6 ∷ []; is_cycle = closed; named = refl }

passes : (r : Refusal) → RefusesFirst turnaround turnaround_at_start (event_id 5) (event_id 3) r → ⊥
passes (UnknownEvent u) (inl h) = let e = h.0 in cc
passes (UnknownEvent u) (inr h) = let e = h.1 in cc
passes (UnknownPair u v) h = let e = h.2 in cc
passes (Passed e t) h = elim h.1 [
  | inl p ↦ let e = p.0 in cc
  | inr p ↦ let e = p.1 in cc
]
passes (Cancelled e) h = elim h.1 [
  | inl p ↦ let e = p.0 in cc
  | inr p ↦ let e = p.1 in cc
]
passes (Locked c) h = let e = h.0.3 in cc
passes (Range v) h = h
passes (UnknownActivity u) h = h
passes (UnknownChange u) h = h
passes (NotPassed u) h = h
passes (NotCancelled u) h = h
passes (NotLocked c) h = h
passes (Back c) h = h
passes (Cycle ids) h = h
passes (Full k) h = h
passes OutOfMemory h = h

pub returns : goal.returns
returns c =
    record {
      shown = shows;
      told = (passes, λ now. now, shows);
      before_full = λ n k h. elim h.1 [
        | inl now ↦ now
        | inr none ↦ none (2 ∷ 7 ∷ 6 ∷ []) closed
      ];
    }
