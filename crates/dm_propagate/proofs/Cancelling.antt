-- What a cancelling does to the active activities, and when a cancelled event is.
use Rattle.std.proofs.Common.{◌≡◌, ◌≢◌, ℕ, ◌+◌, ◌<◌, ◌≤◌, Bool, true, false, List, length, Option, Some, None, refl, sym, ap, ◌∙◌, ◌⊎◌, inl, inr, arith, slice_index, length-set, get_or-set_same, get_or-set_other}
use Rattle.std.specs.Prelude.{slice_set, slice_index_or, unwrap_or, max}
use Rattle.std.proofs.lemmas.Bool.{cases_eq}
use Rattle.dm_network.specs.Net.{Net, activity_at}
use Rattle.dm_rows.specs.Active.{is_active, has_cancelled_end}
use Rattle.dm_rows.specs.Rows.{RowsValue, passed_at, is_cancelled}
use Rattle.dm_rows.specs.Timetable.{time_at, planned_time, span_of, floor_of, MeetsHolding, IsLeast}
use Rattle.dm_rows.proofs.Alike.{active_alike, standing_leaves}
use Rattle.dm_rows.proofs.Running.{active_is_open, both_run}

-- no active activity leads into a cancelled event or out of it
module _ (net : Net) (rows : RowsValue) (i : ℕ) (out : is_cancelled rows i ≡ true) where
  pub enters_no_cancelled : (a : ℕ) → is_active net rows a ≡ true → (activity_at net a).head ≢ i
  enters_no_cancelled a active is =
      let open_still = active_is_open net rows a active in
      let runs : is_cancelled rows i ≡ false = ap (is_cancelled rows) (sym is) ∙ open_still.2 in
      cc

  pub leaves_no_cancelled : (a : ℕ) → is_active net rows a ≡ true → (activity_at net a).tail ≢ i
  leaves_no_cancelled a active is =
      let open_still = active_is_open net rows a active in
      let runs : is_cancelled rows i ≡ false = ap (is_cancelled rows) (sym is) ∙ open_still.1 in
      cc

-- an event that runs still runs where another is cancelled and restored
back_again : (cancelled : List Bool) (i j : ℕ) → i < length cancelled → slice_index_or cancelled j false ≡ false →
    slice_index_or (slice_set (slice_set cancelled i true) i false) j false ≡ false
back_again cancelled i j below off =
    elim (cases_eq j i) [
      | inl is ↦
          let size = length-set cancelled i true in
          ap (λ (k : ℕ). slice_index_or (slice_set (slice_set cancelled i true) i false) k false) is
          ∙ get_or-set_same (slice_set cancelled i true) i false false (omega arith)
      | inr ne ↦ get_or-set_other (slice_set cancelled i true) i j false false ne ∙ get_or-set_other cancelled i j true false ne ∙ off
    ]

module _ (net : Net) (rows : RowsValue) (i : ℕ) (is_event : i < length rows.cancelled) where
  abbrev without : RowsValue
  without = record rows { cancelled = slice_set rows.cancelled i true }

  pub is_out : is_cancelled without i ≡ true
  is_out = get_or-set_same rows.cancelled i true false is_event

  -- an activity that was active and is no more leads into the event or out of it
  pub cancel_ends : (a : ℕ) → is_active net rows a ≡ true → is_active net without a ≡ false →
      ((activity_at net a).head ≡ i) ⊎ ((activity_at net a).tail ≡ i)
  cancel_ends a was now =
      elim (standing_leaves net rows i rows.passed (slice_set rows.cancelled i true) a (λ j ne. refl)
      (λ j ne. get_or-set_other rows.cancelled i j true false ne)) [
        | inl same ↦ absurd cc
        | inr leads ↦ leads
      ]

  -- what is active was so before
  pub cancel_begins_none : (a : ℕ) → is_active net without a ≡ true → is_active net rows a ≡ true
  cancel_begins_none a now =
      elim (standing_leaves net rows i rows.passed (slice_set rows.cancelled i true) a (λ j ne. refl)
      (λ j ne. get_or-set_other rows.cancelled i j true false ne)) [
        | inl same ↦ sym same ∙ now
        | inr leads ↦ elim leads [
          | inl head ↦ absurd (enters_no_cancelled net without i is_out a now head)
          | inr tail ↦ absurd (leaves_no_cancelled net without i is_out a now tail)
        ]
      ]

  -- what was active is so again where the event is restored
  pub set_back : (a : ℕ) → is_active net rows a ≡ true →
      is_active net (record without { cancelled = slice_set (slice_set rows.cancelled i true) i false }) a ≡ true
  set_back a was =
      let ran = active_is_open net rows a was in
      let again : RowsValue = record without { cancelled = slice_set (slice_set rows.cancelled i true) i false } in
      let run_again : has_cancelled_end net again a ≡ false =
      both_run _ _ (back_again rows.cancelled i (activity_at net a).tail is_event ran.1)
      (back_again rows.cancelled i (activity_at net a).head is_event ran.2) in
      let ran_before : has_cancelled_end net rows a ≡ false = both_run _ _ ran.1 ran.2 in
      active_alike net rows again a (run_again ∙ sym ran_before) refl refl refl (λ p e. refl) ∙ was

-- a cancelled event has the time that it has by itself
module _ (net : Net) (rows : RowsValue) (i : ℕ) (x : List ℕ) (lt : i < length net.events) (runs : passed_at rows i ≡ None)
    (out : is_cancelled rows i ≡ true) (least : IsLeast net rows x) where
  floor_is : floor_of net rows i ≡ max (planned_time net rows i) rows.clock
  floor_is = ap (λ (o : Option ℕ). unwrap_or o (max (planned_time net rows i) rows.clock)) runs

  abbrev lowered : List ℕ
  lowered = slice_set x i (floor_of net rows i)

  lowered_here : (j : ℕ) → j ≡ i → time_at lowered j ≡ floor_of net rows i
  lowered_here j is = let size = least.meets.size in ap (time_at lowered) is ∙ get_or-set_same x i (floor_of net rows i) 0 (omega arith)

  lowered_there : (j : ℕ) → j ≢ i → time_at lowered j ≡ time_at x j
  lowered_there j ne = get_or-set_other x i j (floor_of net rows i) 0 ne

  lowered_passed : (j t : ℕ) → j < length net.events → passed_at rows j ≡ Some t → time_at lowered j ≡ t
  lowered_passed j t below passed =
      elim (cases_eq j i) [
        | inl is ↦ let none = ap (passed_at rows) is ∙ runs in absurd cc
        | inr ne ↦ lowered_there j ne ∙ least.meets.passed j t below passed
      ]

  lowered_above : (j : ℕ) → j < length net.events → passed_at rows j ≡ None → planned_time net rows j ≤ time_at lowered j
  lowered_above j below none =
      elim (cases_eq j i) [
        | inl is ↦
            let planned : planned_time net rows j ≡ planned_time net rows i = ap (planned_time net rows) is in
            let here = lowered_here j is in
            let floor = floor_is in
            omega (arith, planned, here, floor)
        | inr ne ↦ let there = lowered_there j ne in let above = least.meets.above j below none in omega (arith, there, above)
      ]

  lowered_clock : (j : ℕ) → j < length net.events → passed_at rows j ≡ None → rows.clock ≤ time_at lowered j
  lowered_clock j below none =
      elim (cases_eq j i) [
        | inl is ↦ let here = lowered_here j is in let floor = floor_is in omega (arith, here, floor)
        | inr ne ↦ let there = lowered_there j ne in let clock = least.meets.clock j below none in omega (arith, there, clock)
      ]

  lowered_along : (a : ℕ) → a < length net.activities → is_active net rows a ≡ true →
      time_at lowered (activity_at net a).tail + span_of net rows a ≤ time_at lowered (activity_at net a).head
  lowered_along a below active =
      let tail = lowered_there (activity_at net a).tail (leaves_no_cancelled net rows i out a active) in
      let head = lowered_there (activity_at net a).head (enters_no_cancelled net rows i out a active) in
      let along = least.meets.along a below active in
      omega (arith, tail, head, along)

  lowered_meets : MeetsHolding net rows (is_active net rows) lowered
  lowered_meets = record {
    size = length-set x i (floor_of net rows i) ∙ least.meets.size;
    passed = lowered_passed;
    above = lowered_above;
    clock = lowered_clock;
    along = lowered_along;
  }

  pub alone_at_floor : slice_index x i ≡ floor_of net rows i
  alone_at_floor =
      let early = least.earliest lowered lowered_meets i lt in
      let here = lowered_here i refl in
      let above = least.meets.above i lt runs in
      let clock = least.meets.clock i lt runs in
      let floor = floor_is in
      omega (arith, early, here, above, clock, floor)
