use Rattle.std.proofs.Common.{[], ◌∷◌, refl, arith}
use Rattle.dm_network.specs.Held.{IsCycleOf}
use Rattle.dm_rows.specs.declared.messages.Message.TheVariants.{Restore}
use Rattle.dm_rows.specs.declared.messages.Refusal.{Refusal}
use Rattle.dm_rows.specs.declared.messages.Refusal.TheVariants.{UnknownEvent, NotCancelled}
use Rattle.dm_rows.specs.Rows.{RowsValue}
use Rattle.dm_rows.specs.Active.{ShowsCycle, is_active}
use Rattle.dm_rows.specs.Examples.{event_id, activity_id, turnaround, turned_free}
use Rattle.dm_rows.specs.Refuse.{RefusesRestore}
use Rattle.dm_rows.specs.Resolve.{after}
use Rattle.dm_rows.proofs.laws.restored_cycle.Goals as goal

abbrev restored : RowsValue
restored = after turnaround turned_free (Restore (event_id 4))

closed : IsCycleOf turnaround (is_active turnaround restored) (2 ∷ 7 ∷ 6 ∷ [])
closed = (
  record { is_arc = omega arith; is_held = refl; from_event = omega arith; to_event = omega arith },
  refl,
  (
    record { is_arc = omega arith; is_held = refl; from_event = omega arith; to_event = omega arith },
    refl,
    (record { is_arc = omega arith; is_held = refl; from_event = omega arith; to_event = omega arith }, refl, refl),
  ),
)

shows : ShowsCycle turnaround restored (activity_id 3 ∷ activity_id 8 ∷ activity_id 7 ∷ [])
shows = record { places = 2 ∷ 7 ∷ 6 ∷ []; is_cycle = closed; named = refl }

passes : (r : Refusal) → RefusesRestore turnaround turned_free (event_id 4) r → ⊥
passes (UnknownEvent u) h = let e = h.0 in cc
passes (NotCancelled u) h = let e = h.0 in cc
passes _ h = h

pub returns : goal.returns
returns c = record { told = (passes, λ now. now, shows) }
