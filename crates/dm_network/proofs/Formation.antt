-- Events and activities in order, from records of which none stands twice.
use Rattle.std.proofs.Common.{◌≡◌, ℕ, ◌<◌, List, [], ◌∷◌, length, map, get_or, refl, sym, ap, ◌∙◌, subst, inl, inr, arith, Some, slice_get, IsPermutation, Contains}
use Rattle.std.specs.List.Sorted.{IsNonDecreasing}
use Rattle.std.proofs.lemmas.Bool.{cases_lt}
use Rattle.std.proofs.lemmas.Option.{slice_get-get_or}
use Rattle.std.proofs.lemmas.List.{get_or-map, length-map}
use Rattle.std.proofs.lemmas.List.Elements.{Contains-get_or}
use Rattle.std.proofs.lemmas.List.Sorted.{IsPermutation-map, IsPermutation-sym, Contains-permutation, All-permutation}
use Rattle.dm_base.specs.declared.rows.EventRow.{EventRow}
use Rattle.dm_base.specs.declared.rows.ActRow.{ActRow}
use Rattle.dm_network.specs.declared.parts.Event.{Event}
use Rattle.dm_network.specs.declared.parts.Activity.{Activity}
use Rattle.dm_network.specs.declared.parts.NetFault.{NetFault}
use Rattle.dm_network.specs.declared.parts.NetFault.TheVariants.{TooMany, DoubleEvent, DoubleActivity, UnknownEvent, ZeroHeadway, Cycle, OutOfMemory}
use Rattle.dm_network.specs.Build.{event_row, event_ids, activity_ids, NoneStandsTwice, IsZeroHeadway, HoldsOfNone}
use Rattle.dm_network.specs.Inside.Stages.{row_with, HasEnds, AreResolved, AreEventsOf, AreActivitiesOf, RefusesEnds, RefusesActivities}
use Rattle.dm_network.proofs.Keys.{distinct_rises}
use Rattle.dm_network.proofs.Doubles.{NoneStandsTwice-permutation}

ids_of_rows : (events : List Event) → map (λ row. row.id.0) (map event_row events) ≡ map (λ e. e.id.0) events
ids_of_rows [] = refl
ids_of_rows (e ∷ events) = ap (λ ids. e.id.0 ∷ ids) (ids_of_rows events)

ids_of_act_rows : (events : List Event) (activities : List Activity) → map (λ row. row.id.0) (map (row_with events) activities) ≡ map (λ a. a.id.0) activities
ids_of_act_rows events [] = refl
ids_of_act_rows events (a ∷ activities) = ap (λ ids. a.id.0 ∷ ids) (ids_of_act_rows events activities)

pub events_are : (rows : List EventRow) (events : List Event) → IsPermutation rows (map event_row events) →
    IsNonDecreasing (map (λ e. e.id.0) events) → NoneStandsTwice (event_ids rows) → AreEventsOf rows events
events_are rows events same up once =
    let p = subst (λ ids. IsPermutation (event_ids rows) ids) (ids_of_rows events) (IsPermutation-map (λ row. row.id.0) rows (map event_row events) same) in
    record {
      same = same;
      ascend = distinct_rises (map (λ e. e.id.0) events) up
          (NoneStandsTwice-permutation (map (λ e. e.id.0) events) (event_ids rows) (IsPermutation-sym (event_ids rows) (map (λ e. e.id.0) events) p) once);
      once = once;
    }

-- a record of the file, from an activity made of it
row_stands : (events : List Event) (rows : List ActRow) (activities : List Activity) → IsPermutation rows (map (row_with events) activities) →
    (k : ℕ) (d : Activity) → k < length activities → (place : ℕ) × (slice_get rows place ≡ Some (row_with events (get_or activities k d)))
row_stands events rows activities same k d lt =
    let in' : k < length (map (row_with events) activities) = rw length-map lt in
    let row = row_with events (get_or activities k d) in
    let there = Contains-get_or (map (row_with events) activities) k (row_with events (get_or activities k d)) in' in
    let e : get_or (map (row_with events) activities) k (row_with events (get_or activities k d)) ≡ row_with events (get_or activities k d) =
    get_or-map (row_with events) activities k d (row_with events (get_or activities k d)) lt in
    let c = Contains-permutation (map (row_with events) activities) rows (row_with events (get_or activities k d))
    (IsPermutation-sym rows (map (row_with events) activities) same)
    (subst (λ r. Contains (map (row_with events) activities) r) e there) in
    (c.0, slice_get-get_or rows c.0 (row_with events (get_or activities k d)) c.1 ∙ ap Some c.2)

pub activities_are : (events : List Event) (rows : List ActRow) (activities sorted : List Activity) → AreResolved events rows activities →
    IsPermutation activities sorted → IsNonDecreasing (map (λ a. a.id.0) sorted) → NoneStandsTwice (activity_ids rows) →
    HoldsOfNone IsZeroHeadway rows → AreActivitiesOf events rows sorted
activities_are events rows activities sorted is perm up once none =
    let same : IsPermutation rows (map (row_with events) sorted) =
    subst (λ rs. IsPermutation rs (map (row_with events) sorted)) (sym is.are) (IsPermutation-map (row_with events) activities sorted perm) in
    let p = subst (λ ids. IsPermutation (activity_ids rows) ids) (ids_of_act_rows events sorted)
    (IsPermutation-map (λ row. row.id.0) rows (map (row_with events) sorted) same) in
    record {
      same = same;
      ascend = distinct_rises (map (λ a. a.id.0) sorted) up
          (NoneStandsTwice-permutation (map (λ a. a.id.0) sorted) (activity_ids rows) (IsPermutation-sym (activity_ids rows) (map (λ a. a.id.0) sorted) p) once);
      ends = All-permutation (HasEnds (length events)) activities sorted perm is.ends;
      apart = λ k d lt headway.
          let r = row_stands events rows sorted same k d lt in
          elim (cases_lt 0 (get_or sorted k d).lower) [
            | inl some ↦ omega arith
            | inr zero' ↦ absurd (none r.0 (row_with events (get_or sorted k d)) r.1 (headway, omega arith))
          ];
    }

pub ends_refused : (events : List Event) (rows : List ActRow) (fault : NetFault) → NoneStandsTwice (activity_ids rows) →
    RefusesEnds events rows fault → RefusesActivities events rows fault
ends_refused events rows (UnknownEvent id) once h = (once, h)
ends_refused events rows OutOfMemory once h = tt
ends_refused events rows TooMany once h = absurd h
ends_refused events rows (DoubleEvent id) once h = absurd h
ends_refused events rows (DoubleActivity id) once h = absurd h
ends_refused events rows (ZeroHeadway id) once h = absurd h
ends_refused events rows (Cycle ids) once h = absurd h
