-- Which events are due by a clock, and what renewing their floors makes of a timetable.
use Rattle.std.proofs.Common.{◌≡◌, ◌≢◌, ℕ, ◌+◌, ◌<◌, ◌≤◌, true, Bool, List, length, take, Option, Some, None, refl, sym, ap, subst, ◌∙◌, ◌⊎◌, inl, inr, arith, slice_index, get_or-set_same, get_or-set_other}
use Rattle.std.specs.Prelude.{unwrap_or, max, slice_set, slice_index_or}
use Rattle.std.proofs.lemmas.Bool.{cases_eq, cases_lt}
use Rattle.dm_network.specs.Net.{Net}
use Rattle.dm_rows.specs.Rows.{RowsValue, passed_at}
use Rattle.dm_rows.specs.Timetable.{planned_time, floor_of}
use Rattle.dm_settle.specs.Constraints.{ConstraintsValue}
use Rattle.dm_marks.specs.Marked.{is_marked}
use Rattle.dm_marks.proofs.Marking.{marked_if}
use Rattle.dm_order.specs.Value.{OrderValue}
use Rattle.dm_live.specs.Live.{LiveValue, is_fixed, with_floor, with_mark}
use Rattle.dm_schedule.specs.Schedule.{IsScheduleOf}
use Rattle.dm_schedule.specs.declared.schedule.Scheduled.{Scheduled}
use Rattle.dm_propagate.specs.Inside.Changing.{AreFloorsAt, HaveFloorsFrom, HasFloors, IsOffFloor, FloorsStay}
use Rattle.dm_propagate.specs.Inside.Raising.{HaveFloorsBut, RaisesFloors}
use Rattle.dm_schedule.proofs.Standing.{in_front_or_late, front_next}

-- what is planned at the later clock or after it has one floor at both
same_floor : (passed : Option ℕ) (planned earlier clock : ℕ) → earlier ≤ clock → clock ≤ planned →
    unwrap_or passed (max planned earlier) ≡ unwrap_or passed (max planned clock)
same_floor None planned earlier clock up late = omega arith
same_floor (Some t) planned earlier clock up late = refl

-- an event that does not stand in front is scheduled at the clock or later, and keeps its floor
pub floors_but : (net : Net) (schedule : List Scheduled) → IsScheduleOf net schedule → (rows : RowsValue) (earlier : ℕ) (given : ConstraintsValue) (due : List Scheduled) → earlier ≤ rows.clock →
    AreFloorsAt net rows earlier given → due ≡ take (length due) schedule →
    ((k : ℕ) (d : Scheduled) → length due ≤ k → k < length schedule → rows.clock ≤ (slice_index_or schedule k d).time) →
    HaveFloorsBut net rows due given
floors_but net schedule is rows earlier given due up at front rest i lt =
    elim (in_front_or_late net schedule is rows.clock due front rest i lt) [
      | inl among ↦ inl among
      | inr late ↦
          let planned : rows.clock ≤ planned_time net rows i = omega arith in
          inr (at i lt ∙ same_floor (passed_at rows i) (planned_time net rows i) earlier rows.clock up planned)
    ]

module _ (net : Net) (rows : RowsValue) (due : List Scheduled) where
  pub none_raised : (live : LiveValue) → RaisesFloors net rows due 0 live live
  none_raised live = record {
    held = refl;
    spans = refl;
    times = refl;
    cycle = refl;
    floors = λ i (k, lt, is). absurd (omega arith);
    others = λ i. inl refl;
    marked = λ e m. inl m;
  }

  -- an event that has its floor already
  pub stays_raised : (n i : ℕ) (before after : LiveValue) → ((d : Scheduled) → (slice_index_or due n d).event ≡ i) →
      slice_index after.given.floors i ≡ floor_of net rows i → RaisesFloors net rows due n before after → RaisesFloors net rows due (n + 1) before after
  stays_raised n i before after here right so = record {
    held = so.held;
    spans = so.spans;
    times = so.times;
    cycle = so.cycle;
    floors = λ j among. elim (front_next due n i j here among) [
      | inl earlier ↦ so.floors j earlier
      | inr is ↦ subst (λ m. slice_index after.given.floors m ≡ floor_of net rows m) (sym is) right
    ];
    others = so.others;
    marked = so.marked;
  }

  -- a floor from the clock on is right where it stands, since those of before were
  pub right_from : (n i clock : ℕ) (before after : LiveValue) → i < length net.events → HaveFloorsFrom net rows clock before.given →
      RaisesFloors net rows due n before after → clock ≤ slice_index after.given.floors i → slice_index after.given.floors i ≡ floor_of net rows i
  right_from n i clock before after lt from so above =
      elim (so.others i) [
        | inl same ↦ same ∙ from i lt (subst (λ f. clock ≤ f) same above)
        | inr right ↦ right.1
      ]

  -- one that is off now was off before
  was_off : (n i : ℕ) (before old : LiveValue) → RaisesFloors net rows due n before old → IsOffFloor net rows old i → IsOffFloor net rows before i
  was_off n i before old so off =
      elim off [
        | inl below ↦ elim (so.others i) [
          | inl same ↦ inl (subst (λ f. floor_of net rows i < f) same below)
          | inr right ↦ let e = right.1 in absurd (omega arith)
        ]
        | inr above ↦ inr (subst (λ ts. slice_index ts i < floor_of net rows i) so.times above)
      ]

  -- a fixed event has its floor before and after
  pub raised_stays : (n i : ℕ) (before old : LiveValue) (fixed fixed_now : List Bool) → fixed_now ≡ fixed → i < length net.events →
      FloorsStay net rows before.given fixed → RaisesFloors net rows due n before old → is_fixed fixed_now i ≡ true →
      slice_index old.given.floors i ≡ floor_of net rows i
  raised_stays n i before old fixed fixed_now same_fixed lt stay so on =
      elim (so.others i) [
        | inl same ↦ same ∙ stay i lt (ap (λ (f : List Bool). is_fixed f i) (sym same_fixed) ∙ on)
        | inr right ↦ right.1
      ]

  module _ (n i : ℕ) (before old now : LiveValue) (is_event : i < length net.events) (many : length old.given.floors ≡ length net.events)
      (here : (d : Scheduled) → (slice_index_or due n d).event ≡ i) (so : RaisesFloors net rows due n before old)
      (given : now.given ≡ with_floor old.given i (floor_of net rows i))
      (marked : IsOffFloor net rows old i → now.marks ≡ with_mark old.marks i)
      (unmarked : slice_index old.given.floors i ≤ floor_of net rows i → floor_of net rows i ≤ slice_index old.times i → now.marks ≡ old.marks)
      (order : now.order ≡ old.order) (times : now.times ≡ old.times) where
    floor_now : (j : ℕ) → slice_index now.given.floors j ≡ slice_index (slice_set old.given.floors i (floor_of net rows i)) j
    floor_now j = ap (λ (g : ConstraintsValue). slice_index g.floors j) given

    floor_here : slice_index now.given.floors i ≡ floor_of net rows i
    floor_here = floor_now i ∙ get_or-set_same old.given.floors i (floor_of net rows i) 0 (omega arith)

    floor_there : (j : ℕ) → j ≢ i → slice_index now.given.floors j ≡ slice_index old.given.floors j
    floor_there j other = floor_now j ∙ get_or-set_other old.given.floors i j (floor_of net rows i) 0 other

    off_marked : (e : ℕ) → IsOffFloor net rows old i → is_marked now.marks e ≡ true →
        (is_marked before.marks e ≡ true) ⊎ ((e < length net.events) × IsOffFloor net rows before e)
    off_marked e off m =
        elim (marked_if old.marks i e (subst (λ ms. is_marked ms e ≡ true) (marked off) m)) [
          | inl was ↦ so.marked e was
          | inr is ↦ inr (subst (λ j. (j < length net.events) × IsOffFloor net rows before j) (sym is) (is_event, was_off n i before old so off))
        ]

    one_marked : (e : ℕ) → is_marked now.marks e ≡ true → (is_marked before.marks e ≡ true) ⊎ ((e < length net.events) × IsOffFloor net rows before e)
    one_marked e m =
        elim (cases_lt (floor_of net rows i) (slice_index old.given.floors i)) [
          | inl below ↦ off_marked e (inl below) m
          | inr up ↦ elim (cases_lt (slice_index old.times i) (floor_of net rows i)) [
            | inl above ↦ off_marked e (inr above) m
            | inr in' ↦ so.marked e (subst (λ ms. is_marked ms e ≡ true) (unmarked (omega arith) (omega arith)) m)
          ]
        ]

    pub one_raised : RaisesFloors net rows due (n + 1) before now
    one_raised = record {
      held = ap (λ (g : ConstraintsValue). g.held) given ∙ so.held;
      spans = ap (λ (g : ConstraintsValue). g.spans) given ∙ so.spans;
      times = times ∙ so.times;
      cycle = ap (λ (o : OrderValue). o.cycle) order ∙ so.cycle;
      floors = λ j among. elim (cases_eq j i) [
        | inl is ↦ subst (λ m. slice_index now.given.floors m ≡ floor_of net rows m) (sym is) floor_here
        | inr other ↦ elim (front_next due n i j here among) [
          | inl earlier ↦ floor_there j other ∙ so.floors j earlier
          | inr is ↦ absurd (other is)
        ]
      ];
      others = λ j. elim (cases_eq j i) [
        | inl is ↦ inr (subst (λ m. (m < length net.events) × (slice_index now.given.floors m ≡ floor_of net rows m)) (sym is) (is_event, floor_here))
        | inr other ↦ elim (so.others j) [
          | inl same ↦ inl (floor_there j other ∙ same)
          | inr right ↦ inr (right.0, floor_there j other ∙ right.1)
        ]
      ];
      marked = one_marked;
    }

  -- once all that are due have their floors, each event has its own
  pub all_raised : (before after : LiveValue) → HaveFloorsBut net rows due before.given → RaisesFloors net rows due (length due) before after →
      HasFloors net rows (length net.events) before after
  all_raised before after but so = record {
    held = so.held;
    spans = so.spans;
    times = so.times;
    cycle = so.cycle;
    floors = λ i lt. elim (but i lt) [
      | inl among ↦ so.floors i among
      | inr right ↦ elim (so.others i) [
        | inl same ↦ same ∙ right
        | inr now ↦ now.1
      ]
    ];
    others = λ i past. elim (so.others i) [
      | inl same ↦ same
      | inr now ↦ let lt = now.0 in absurd (omega arith)
    ];
    marked = so.marked;
  }
