-- A timetable kept with rows, one place after the other.
use Rattle.std.proofs.Common.{◌≡◌, ℕ, ◌+◌, ◌<◌, ◌≤◌, ◌⊎◌, Bool, true, false, List, length, take, Option, Some, None, sym, ap, subst, ◌∙◌, inl, inr, refl, arith, slice_index, length-set, get_or-set_same, get_or-set_other}
use Rattle.std.specs.Prelude.{slice_set, slice_index_or, unwrap_or, max}
use Rattle.std.proofs.lemmas.Bool.{cases_eq, cases_lt}
use Rattle.dm_network.specs.Net.{Net, event_at, activity_at, pair_at, places_into, places_out_of}
use Rattle.dm_network.specs.Held.{is_held}
use Rattle.dm_network.specs.Pairs.{IsPaired}
use Rattle.dm_rows.specs.Active.{is_active}
use Rattle.dm_rows.specs.Reach.{Reaches}
use Rattle.dm_rows.specs.Resolve.{after_change, after_flip, after_lock}
use Rattle.dm_rows.specs.Rows.{RowsValue, IsSized, passed_at, is_cancelled}
use Rattle.dm_rows.specs.Timetable.{planned_time, floor_of, span_of}
use Rattle.dm_rows.specs.declared.messages.Spot.{Spot}
use Rattle.dm_rows.specs.declared.messages.Spot.TheVariants.{Change as AtChange, Pair as AtPair}
use Rattle.dm_rows.specs.declared.messages.Flip.{Flip}
use Rattle.dm_rows.specs.declared.messages.Flip.TheVariants.{Keep, Drop, First}
use Rattle.dm_rows.specs.declared.messages.Change.{Change}
use Rattle.dm_rows.specs.declared.messages.Change.TheVariants.{EventDelay, ActDelay, Passed, Recalled, Flipped, Adopted, Clock, Cancelled, Restored, Locked, Unlocked}
use Rattle.dm_schedule.specs.Schedule.{IsScheduleOf}
use Rattle.dm_schedule.specs.declared.schedule.Scheduled.{Scheduled}
use Rattle.dm_schedule.proofs.Standing.{in_front_or_late, front_next}
use Rattle.dm_check_times.specs.Timetables.{KeptTimetableValue, AgreesWith, RenewsEvent, RenewsActivity, TakesClock, ChangesNet}
use Rattle.dm_check_times.specs.Inside.Agreeing.{FloorAgrees, ActivityAgrees, Renews, MovesAt, MovesAmong, Nowhere, Here, Below, IsMoved, MovedAmong, InRow, IsInto, IsOutOf, LeadsAt, IsDecided, RenewsFor, is_adopted}
use Rattle.dm_network.proofs.EventRows.{stands_out}
use Rattle.dm_network.proofs.EventRows.{stands_into}
use Rattle.dm_check_times.proofs.OfTimetables.{agrees_same}
use Rattle.dm_rows.proofs.Alike.{active_alike, standing_leaves, lock_leaves, lock_keeps_floor, lock_keeps_span, EndsAtPair, pair_ends, flip_keeps_floor, flip_keeps_span}

-- ---- one place after the other

pub renews_none : (net : Net) (rows : RowsValue) (t : KeptTimetableValue) → Renews net rows Nowhere Nowhere t t
renews_none net rows t = record {
  keeps = record { held_size = refl; spans_size = refl; floors_size = refl; clock = refl; times = refl; events = λ e is. is; activities = λ a is. is };
  events_there = λ e nowhere. absurd nowhere;
  activities_there = λ a nowhere. absurd nowhere;
}

-- where fewer places have to agree
pub renews_less : (net : Net) (rows : RowsValue) (e1 events a1 activities : ℕ → Type 0) (old new : KeptTimetableValue) → ((e : ℕ) → events e → e1 e ⊎ FloorAgrees net rows new e) → ((a : ℕ) → activities a → a1 a) →
    Renews net rows e1 a1 old new → Renews net rows events activities old new
renews_less net rows e1 events a1 activities old new of_events of_activities had = record {
  keeps = had.keeps;
  events_there = λ e is. elim (of_events e is) [
    | inl among ↦ had.events_there e among
    | inr agrees ↦ agrees
  ];
  activities_there = λ a is. had.activities_there a (of_activities a is);
}

pub renews_then : (net : Net) (rows : RowsValue) (e1 e2 events a1 a2 activities : ℕ → Type 0) (old mid new : KeptTimetableValue) → ((e : ℕ) → events e → e1 e ⊎ e2 e) → ((a : ℕ) → activities a → a1 a ⊎ a2 a) →
    Renews net rows e1 a1 old mid → Renews net rows e2 a2 mid new → Renews net rows events activities old new
renews_then net rows e1 e2 events a1 a2 activities old mid new of_events of_activities one two = record {
  keeps = record {
    held_size = two.keeps.held_size ∙ one.keeps.held_size;
    spans_size = two.keeps.spans_size ∙ one.keeps.spans_size;
    floors_size = two.keeps.floors_size ∙ one.keeps.floors_size;
    clock = two.keeps.clock ∙ one.keeps.clock;
    times = two.keeps.times ∙ one.keeps.times;
    events = λ e is. two.keeps.events e (one.keeps.events e is);
    activities = λ a is. two.keeps.activities a (one.keeps.activities a is);
  };
  events_there = λ e is. elim (of_events e is) [
    | inl first ↦ two.keeps.events e (one.events_there e first)
    | inr second ↦ two.events_there e second
  ];
  activities_there = λ a is. elim (of_activities a is) [
    | inl first ↦ two.keeps.activities a (one.activities_there a first)
    | inr second ↦ two.activities_there a second
  ];
}

pub event_renews : (net : Net) (rows : RowsValue) (event : ℕ) (old new : KeptTimetableValue) → event < length old.floors → RenewsEvent net rows event old new → Renews net rows (Here event) Nowhere old new
event_renews net rows event old new inside renews = record {
  keeps = record {
    held_size = ap (λ (xs : List Bool). length xs) renews.held;
    spans_size = ap (λ (xs : List ℕ). length xs) renews.spans;
    floors_size = ap (λ (xs : List ℕ). length xs) renews.floors ∙ length-set old.floors event (floor_of net rows event);
    clock = renews.clock;
    times = renews.times;
    events = λ e was. elim (cases_eq e event) [
      | inl here ↦ there e here
      | inr ne ↦ ap (λ (xs : List ℕ). slice_index xs e) renews.floors ∙ (get_or-set_other old.floors event e (floor_of net rows event) 0 ne ∙ was)
    ];
    activities = λ a was. (ap (λ (xs : List Bool). is_held xs a) renews.held ∙ was.0, ap (λ (xs : List ℕ). slice_index xs a) renews.spans ∙ was.1);
  };
  events_there = λ e here. there e here;
  activities_there = λ a nowhere. absurd nowhere;
}
  where
    there : (e : ℕ) → e ≡ event → FloorAgrees net rows new e
    there e here = subst (λ (i : ℕ). FloorAgrees net rows new i) (sym here) (ap (λ (xs : List ℕ). slice_index xs event) renews.floors ∙ get_or-set_same old.floors event (floor_of net rows event) 0 inside)

pub activity_renews : (net : Net) (rows : RowsValue) (a : ℕ) (old new : KeptTimetableValue) → a < length old.held → a < length old.spans → RenewsActivity net rows a old new → Renews net rows Nowhere (Here a) old new
activity_renews net rows a old new inside inside_spans renews = record {
  keeps = record {
    held_size = ap (λ (xs : List Bool). length xs) renews.held ∙ length-set old.held a (is_active net rows a);
    spans_size = ap (λ (xs : List ℕ). length xs) renews.spans ∙ length-set old.spans a (span_of net rows a);
    floors_size = ap (λ (xs : List ℕ). length xs) renews.floors;
    clock = renews.clock;
    times = renews.times;
    events = λ e was. ap (λ (xs : List ℕ). slice_index xs e) renews.floors ∙ was;
    activities = λ b was. elim (cases_eq b a) [
      | inl here ↦ there b here
      | inr ne ↦ (
        ap (λ (xs : List Bool). is_held xs b) renews.held ∙ (get_or-set_other old.held a b (is_active net rows a) false ne ∙ was.0),
        ap (λ (xs : List ℕ). slice_index xs b) renews.spans ∙ (get_or-set_other old.spans a b (span_of net rows a) 0 ne ∙ was.1),
      )
    ];
  };
  events_there = λ e nowhere. absurd nowhere;
  activities_there = λ b here. there b here;
}
  where
    there : (b : ℕ) → b ≡ a → ActivityAgrees net rows new b
    there b here = subst (λ (i : ℕ). ActivityAgrees net rows new i) (sym here) (
      ap (λ (xs : List Bool). is_held xs a) renews.held ∙ get_or-set_same old.held a (is_active net rows a) false inside,
      ap (λ (xs : List ℕ). slice_index xs a) renews.spans ∙ get_or-set_same old.spans a (span_of net rows a) 0 inside_spans,
    )

pub row_none : (net : Net) (rows : RowsValue) (row : List ℕ) (t : KeptTimetableValue) → Renews net rows Nowhere (InRow row 0) t t
row_none net rows row t =
    renews_less net rows Nowhere Nowhere Nowhere (InRow row 0) t t (λ e is. inl is) (λ a inside. absurd (let b = inside.before in omega arith)) (renews_none net rows t)

pub row_more : (net : Net) (rows : RowsValue) (row : List ℕ) (n : ℕ) (old mid new : KeptTimetableValue) → Renews net rows Nowhere (InRow row n) old mid → Renews net rows Nowhere (Here (slice_index row n)) mid new →
    Renews net rows Nowhere (InRow row (n + 1)) old new
row_more net rows row n old mid new had more =
    renews_then net rows Nowhere Nowhere Nowhere (InRow row n) (Here (slice_index row n)) (InRow row (n + 1)) old mid new (λ e is. inl is)
    (λ a inside. elim (cases_lt inside.place n) [
      | inl less ↦ inl (record { place = inside.place; before = less; is = inside.is })
      | inr past ↦ let b = inside.before in let same : inside.place ≡ n = omega arith in inr (sym inside.is ∙ ap (λ k. slice_index row k) same)
    ])
    had more

pub below_none : (net : Net) (rows : RowsValue) (t : KeptTimetableValue) → Renews net rows (Below 0) Nowhere t t
below_none net rows t = renews_less net rows Nowhere (Below 0) Nowhere Nowhere t t (λ e below. absurd (omega arith)) (λ a is. is) (renews_none net rows t)

pub below_more : (net : Net) (rows : RowsValue) (n : ℕ) (old mid new : KeptTimetableValue) → n < length mid.floors → Renews net rows (Below n) Nowhere old mid → RenewsEvent net rows n mid new → Renews net rows (Below (n + 1)) Nowhere old new
below_more net rows n old mid new inside had more =
    renews_then net rows (Below n) (Here n) (Below (n + 1)) Nowhere Nowhere Nowhere old mid new
    (λ e below. elim (cases_lt e n) [
      | inl less ↦ inl less
      | inr past ↦ inr (let is : e ≡ n = omega arith in is)
    ])
    (λ a is. inl is) had (event_renews net rows n mid new inside more)

-- ---- one event of a schedule after the other

pub among_none : (net : Net) (rows : RowsValue) (due : List Scheduled) (t : KeptTimetableValue) → MovesAmong net rows due 0 t t
among_none net rows due t = record {
  renews = renews_less net rows Nowhere (MovedAmong t rows.clock due 0) Nowhere Nowhere t t
      (λ e moved. absurd (let none = moved.0.1 in omega arith)) (λ a is. is) (renews_none net rows t);
  others = λ k. inl refl;
}

pub among_more : (net : Net) (rows : RowsValue) (due : List Scheduled) (n event : ℕ) (old mid new : KeptTimetableValue) → ((d : Scheduled) → (slice_index_or due n d).event ≡ event) →
    MovesAmong net rows due n old mid → MovesAt net rows event mid new → MovesAmong net rows due (n + 1) old new
among_more net rows due n event old mid new here had more = record {
  renews = renews_then net rows (λ k. MovedAmong old rows.clock due n k ⊎ FloorAgrees net rows mid k) (λ k. (k ≡ event) × (slice_index mid.floors event < rows.clock))
      (MovedAmong old rows.clock due (n + 1)) Nowhere Nowhere Nowhere old mid new
      (λ e moved. elim (front_next due n event e here moved.0) [
        | inl earlier ↦ inl (inl (earlier, moved.1))
        | inr is ↦ elim (had.others e) [
          | inl same ↦ inr (is, subst (λ (k : ℕ). slice_index mid.floors k < rows.clock) is (let early = moved.1 in omega arith))
          | inr agrees ↦ inl (inr agrees)
        ]
      ])
      (λ a is. inl is)
      (renews_less net rows (MovedAmong old rows.clock due n) (λ k. MovedAmong old rows.clock due n k ⊎ FloorAgrees net rows mid k) Nowhere Nowhere old mid (λ e is. is) (λ a is. is) had.renews)
      more.renews;
  others = λ k. elim (more.others k) [
    | inl same ↦ elim (had.others k) [
      | inl was ↦ inl (same ∙ was)
      | inr agrees ↦ inr (more.renews.keeps.events k agrees)
    ]
    | inr agrees ↦ inr agrees
  ];
}

-- those that a clock moves are among all, or among those in front of it where it has not gone back
pub moved_all : (net : Net) (rows : RowsValue) (old new : KeptTimetableValue) → Renews net rows (Below (length net.events)) Nowhere old new → Renews net rows (IsMoved net old rows.clock) Nowhere old new
moved_all net rows old new had = renews_less net rows (Below (length net.events)) (IsMoved net old rows.clock) Nowhere Nowhere old new (λ e moved. inl moved.0) (λ a is. is) had

pub moved_front : (net : Net) (rows : RowsValue) (schedule due : List Scheduled) (old new : KeptTimetableValue) → IsScheduleOf net schedule → old.clock ≤ rows.clock → due ≡ take (length due) schedule →
    ((k : ℕ) (d : Scheduled) → length due ≤ k → k < length schedule → rows.clock ≤ (slice_index_or schedule k d).time) →
    MovesAmong net rows due (length due) old new → Renews net rows (IsMoved net old rows.clock) Nowhere old new
moved_front net rows schedule due old new is on front rest had =
    renews_less net rows (MovedAmong old rows.clock due (length due)) (IsMoved net old rows.clock) Nowhere Nowhere old new (λ e moved. inl (among e moved.0 moved.1)) (λ a is. is) had.renews
  where
    among : (e : ℕ) → e < length net.events → (rows.clock < old.clock) ⊎ (((event_at net e).time < rows.clock) × (slice_index old.floors e < rows.clock)) → MovedAmong old rows.clock due (length due) e
    among e below (inl back) = absurd (omega arith)
    among e below (inr early) = elim (in_front_or_late net schedule is rows.clock due front rest e below) [
      | inl stands ↦ (stands, early.1)
      | inr late ↦ absurd (let before = early.0 in omega arith)
    ]

-- ---- whole rows of activities

pub row_into_whole : (net : Net) (rows : RowsValue) (i : ℕ) (row : List ℕ) (old new : KeptTimetableValue) → row ≡ places_into net i → Renews net rows Nowhere (InRow row (length row)) old new → Renews net rows Nowhere (IsInto net i) old new
row_into_whole net rows i row old new is had =
    renews_less net rows Nowhere Nowhere (InRow row (length row)) (IsInto net i) old new (λ e nowhere. absurd nowhere)
    (λ a enters. let s = stands_into net i a row is (record { is_activity = enters.0; head = enters.1 }) in record { place = s.place; before = s.within; is = s.is }) had

pub row_out_whole : (net : Net) (rows : RowsValue) (i : ℕ) (row : List ℕ) (old new : KeptTimetableValue) → row ≡ places_out_of net i → Renews net rows Nowhere (InRow row (length row)) old new → Renews net rows Nowhere (IsOutOf net i) old new
row_out_whole net rows i row old new is had =
    renews_less net rows Nowhere Nowhere (InRow row (length row)) (IsOutOf net i) old new (λ e nowhere. absurd nowhere)
    (λ a leaves. let s = stands_out net i a row is (record { is_activity = leaves.0; tail = leaves.1 }) in record { place = s.place; before = s.within; is = s.is }) had

pub around_whole : (net : Net) (rows : RowsValue) (i : ℕ) (old one two new : KeptTimetableValue) → Renews net rows (Here i) Nowhere old one → Renews net rows Nowhere (IsInto net i) one two → Renews net rows Nowhere (IsOutOf net i) two new →
    Renews net rows (Here i) (LeadsAt net i) old new
around_whole net rows i old one two new first second third =
    renews_then net rows (Here i) Nowhere (Here i) Nowhere (LeadsAt net i) (LeadsAt net i) old one new (λ e is. inl is) (λ a is. inr is) first
    (renews_then net rows Nowhere Nowhere Nowhere (IsInto net i) (IsOutOf net i) (LeadsAt net i) one two new (λ e is. inl is)
    (λ a is. elim is.1 [
      | inl enters ↦ inl (is.0, enters)
      | inr leaves ↦ inr (is.0, leaves)
    ])
    second third)

pub pair_whole : (net : Net) (rows : RowsValue) (p : ℕ) (small : Bool) (old mid new : KeptTimetableValue) → Renews net rows Nowhere (IsOutOf net (pair_at net p).small) old mid → Renews net rows Nowhere (IsOutOf net (pair_at net p).large) mid new →
    Renews net rows Nowhere (IsDecided net (First p small)) old new
pair_whole net rows p small old mid new one two =
    renews_then net rows Nowhere Nowhere Nowhere (IsOutOf net (pair_at net p).small) (IsOutOf net (pair_at net p).large) (IsDecided net (First p small)) old mid new (λ e is. inl is)
    (λ a is. elim is.1 [
      | inl leaves ↦ inl (is.0, leaves)
      | inr leaves ↦ inr (is.0, leaves)
    ])
    one two

-- ---- what a change leaves

-- a flip leaves every activity but those that it decides about
flip_leaves : (net : Net) (rows : RowsValue) (flip : Flip) (b : ℕ) → b < length net.activities → EndsAtPair net b → (is_active net (after_flip rows flip) b ≡ is_active net rows b) ⊎ IsDecided net flip b
flip_leaves net rows (Keep a) b below ends =
    elim (cases_eq b a) [
      | inl is ↦ inr is
      | inr ne ↦ inl (active_alike net rows (after_flip rows (Keep a)) b refl refl (get_or-set_other rows.kept a b true true ne) refl (λ p e. refl))
    ]
flip_leaves net rows (Drop a) b below ends =
    elim (cases_eq b a) [
      | inl is ↦ inr is
      | inr ne ↦ inl (active_alike net rows (after_flip rows (Drop a)) b refl refl (get_or-set_other rows.kept a b false true ne) refl (λ p e. refl))
    ]
flip_leaves net rows (First p small) b below ends = pair_leaves (activity_at net b).pair refl where
  pair_leaves : (pair : Option ℕ) → (activity_at net b).pair ≡ pair →
      (is_active net (after_flip rows (First p small)) b ≡ is_active net rows b) ⊎ IsDecided net (First p small) b
  pair_leaves None none = inl (active_alike net rows (after_flip rows (First p small)) b refl refl refl refl (λ q e. let e' : Some q ≡ None = sym e ∙ none in absurd cc))
  pair_leaves (Some q) some =
      elim (cases_eq q p) [
        | inl is ↦ inr (below, subst (λ (r : ℕ). ((activity_at net b).tail ≡ (pair_at net r).small) ⊎ ((activity_at net b).tail ≡ (pair_at net r).large)) is (ends q some))
        | inr ne ↦ inl (active_alike net rows (after_flip rows (First p small)) b refl refl refl refl
            (λ r e. let same : r ≡ q = cc in get_or-set_other rows.small_first p r small true (λ at. ne (sym same ∙ at))))
      ]

lock_keeps_clock : (rows : RowsValue) (spot : Spot) (locked : Bool) → (after_lock rows spot locked).clock ≡ rows.clock
lock_keeps_clock rows (AtChange a) locked = refl
lock_keeps_clock rows (AtPair p) locked = refl

flip_keeps_clock : (rows : RowsValue) (flip : Flip) → (after_flip rows flip).clock ≡ rows.clock
flip_keeps_clock rows (Keep b) = refl
flip_keeps_clock rows (Drop b) = refl
flip_keeps_clock rows (First p small) = refl

-- where one event alone stands otherwise, every activity but those at it stays, and every floor but its own
stands_otherwise : (net : Net) (rows : RowsValue) (i : ℕ) (passed : List (Option ℕ)) (cancelled : List Bool) (b : ℕ) → b < length net.activities →
    ((j : ℕ) → (j ≡ i → ⊥) → slice_index_or passed j None ≡ passed_at rows j) → ((j : ℕ) → (j ≡ i → ⊥) → slice_index_or cancelled j false ≡ is_cancelled rows j) →
    (is_active net (record rows { passed = passed; cancelled = cancelled }) b ≡ is_active net rows b) ⊎ LeadsAt net i b
stands_otherwise net rows i passed cancelled b below others running =
    elim (standing_leaves net rows i passed cancelled b others running) [ inl same ↦ inl same | inr at ↦ inr (below, at) ]

passed_floor : (net : Net) (rows : RowsValue) (passed : List (Option ℕ)) (cancelled : List Bool) (e : ℕ) → slice_index_or passed e None ≡ passed_at rows e →
    floor_of net (record rows { passed = passed; cancelled = cancelled }) e ≡ floor_of net rows e
passed_floor net rows passed cancelled e same = ap (λ (p : Option ℕ). unwrap_or p (max (planned_time net rows e) rows.clock)) same

-- a floor that is no earlier than a clock that goes on is as before
late_stays : (o : Option ℕ) (planned was clock : ℕ) → was ≤ clock → clock ≤ unwrap_or o (max planned was) → unwrap_or o (max planned clock) ≡ unwrap_or o (max planned was)
late_stays (Some t) planned was clock on late = refl
late_stays None planned was clock on late = omega arith

floor_stays : (net : Net) (before rows : RowsValue) (e t : ℕ) → rows ≡ after_change before (Clock t) → before.clock ≤ rows.clock → rows.clock ≤ floor_of net before e → floor_of net rows e ≡ floor_of net before e
floor_stays net before rows e t is =
    subst (λ (r : RowsValue). before.clock ≤ r.clock → r.clock ≤ floor_of net before e → floor_of net r e ≡ floor_of net before e) (sym is)
    (late_stays (passed_at before e) (planned_time net before e) before.clock t)

-- and so is that of an event that is scheduled at it or later
scheduled_stays : (o : Option ℕ) (planned was clock : ℕ) → was ≤ clock → clock ≤ planned → unwrap_or o (max planned clock) ≡ unwrap_or o (max planned was)
scheduled_stays (Some t) planned was clock on late = refl
scheduled_stays None planned was clock on late = omega arith

late_floor_stays : (net : Net) (before rows : RowsValue) (e t : ℕ) → rows ≡ after_change before (Clock t) → before.clock ≤ rows.clock → rows.clock ≤ (event_at net e).time → floor_of net rows e ≡ floor_of net before e
late_floor_stays net before rows e t is =
    subst (λ (r : RowsValue). before.clock ≤ r.clock → r.clock ≤ (event_at net e).time → floor_of net r e ≡ floor_of net before e) (sym is)
    (λ on late. scheduled_stays (passed_at before e) (planned_time net before e) before.clock t on (let planned : t ≤ planned_time net before e = omega arith in planned))

-- ---- where all that a change does not leave is taken from the rows after it, all agrees with them

module _ (net : Net) (before rows : RowsValue) (events activities : ℕ → Type 0) (old new : KeptTimetableValue) (renews : Renews net rows events activities old new) (agrees : AgreesWith net before old)
    (floors : (e : ℕ) → e < length net.events → (floor_of net rows e ≡ floor_of net before e) ⊎ events e)
    (binding : (a : ℕ) → a < length net.activities → ((is_active net rows a ≡ is_active net before a) × (span_of net rows a ≡ span_of net before a)) ⊎ activities a) where
  floor_now : (e : ℕ) → e < length net.events → FloorAgrees net rows new e
  floor_now e below = elim (floors e below) [
    | inl same ↦ renews.keeps.events e (agrees.floors.each e below ∙ sym same)
    | inr there ↦ renews.events_there e there
  ]

  activity_now : (a : ℕ) → a < length net.activities → ActivityAgrees net rows new a
  activity_now a below = elim (binding a below) [
    | inl same ↦ renews.keeps.activities a (agrees.held a below ∙ sym same.0, agrees.spans.each a below ∙ sym same.1)
    | inr there ↦ renews.activities_there a there
  ]

  -- all but the clock
  pub timed_agrees : AgreesWith net rows (record new { clock = rows.clock })
  timed_agrees = record {
    held = λ a below. (activity_now a below).0;
    spans = record { as_many = renews.keeps.spans_size ∙ agrees.spans.as_many; each = λ a below. (activity_now a below).1 };
    floors = record { as_many = renews.keeps.floors_size ∙ agrees.floors.as_many; each = floor_now };
    clock = refl;
  }

  pub still_agrees : rows.clock ≡ before.clock → AgreesWith net rows new
  still_agrees clock = agrees_same net rows (record new { clock = rows.clock }) new refl refl refl (renews.keeps.clock ∙ (agrees.clock ∙ sym clock)) timed_agrees

module _ (net : Net) (before rows : RowsValue) (old new : KeptTimetableValue) (agrees : AgreesWith net before old) where
  pub agrees_delayed : (i d : ℕ) → rows ≡ after_change before (EventDelay i d) → Renews net rows (Here i) Nowhere old new → AgreesWith net rows new
  agrees_delayed i d is renews =
      still_agrees net before rows (Here i) Nowhere old new renews agrees
      (λ e below. rw is (elim (cases_eq e i) [
        | inl here ↦ inr here
        | inr ne ↦ inl (ap (λ (delay : ℕ). unwrap_or (passed_at before e) (max ((event_at net e).time + delay) before.clock)) (get_or-set_other before.event_delays i e d 0 ne))
      ]))
      (λ a below. rw is (inl (refl, refl)))
      (rw is refl)

  pub agrees_lengthened : (b d : ℕ) → rows ≡ after_change before (ActDelay b d) → Renews net rows Nowhere (Here b) old new → AgreesWith net rows new
  agrees_lengthened b d is renews =
      still_agrees net before rows Nowhere (Here b) old new renews agrees
      (λ e below. rw is (inl refl))
      (λ a below. rw is (elim (cases_eq a b) [
        | inl here ↦ inr here
        | inr ne ↦ inl (refl, ap (λ (delay : ℕ). (activity_at net a).lower + delay) (get_or-set_other before.act_delays b a d 0 ne))
      ]))
      (rw is refl)

  otherwise : (i : ℕ) (passed : List (Option ℕ)) (cancelled : List Bool) → rows ≡ record before { passed = passed; cancelled = cancelled } →
      ((j : ℕ) → (j ≡ i → ⊥) → slice_index_or passed j None ≡ passed_at before j) → ((j : ℕ) → (j ≡ i → ⊥) → slice_index_or cancelled j false ≡ is_cancelled before j) →
      Renews net rows (Here i) (LeadsAt net i) old new → AgreesWith net rows new
  otherwise i passed cancelled is others running renews =
      still_agrees net before rows (Here i) (LeadsAt net i) old new renews agrees
      (λ e below. rw is (elim (cases_eq e i) [
        | inl here ↦ inr here
        | inr ne ↦ inl (passed_floor net before passed cancelled e (others e ne))
      ]))
      (λ a below. rw is (elim (stands_otherwise net before i passed cancelled a below others running) [
        | inl same ↦ inl (same, refl)
        | inr there ↦ inr there
      ]))
      (rw is refl)

  pub agrees_passed : (i t : ℕ) → rows ≡ after_change before (Passed i t) → Renews net rows (Here i) (LeadsAt net i) old new → AgreesWith net rows new
  agrees_passed i t is renews =
      otherwise i (slice_set before.passed i (Some t)) (slice_set before.cancelled i false) is
      (λ j ne. get_or-set_other before.passed i j (Some t) None ne) (λ j ne. get_or-set_other before.cancelled i j false false ne) renews

  pub agrees_recalled : (i : ℕ) → rows ≡ after_change before (Recalled i) → Renews net rows (Here i) (LeadsAt net i) old new → AgreesWith net rows new
  agrees_recalled i is renews =
      otherwise i (slice_set before.passed i None) before.cancelled is
      (λ j ne. get_or-set_other before.passed i j None None ne) (λ j ne. refl) renews

  pub agrees_cancelled : (i : ℕ) → rows ≡ after_change before (Cancelled i) → Renews net rows (Here i) (LeadsAt net i) old new → AgreesWith net rows new
  agrees_cancelled i is renews =
      otherwise i before.passed (slice_set before.cancelled i true) is
      (λ j ne. refl) (λ j ne. get_or-set_other before.cancelled i j true false ne) renews

  pub agrees_restored : (i : ℕ) → rows ≡ after_change before (Restored i) → Renews net rows (Here i) (LeadsAt net i) old new → AgreesWith net rows new
  agrees_restored i is renews =
      otherwise i before.passed (slice_set before.cancelled i false) is
      (λ j ne. refl) (λ j ne. get_or-set_other before.cancelled i j false false ne) renews

  pub agrees_locked : (spot : Spot) (locked : Bool) → rows ≡ after_lock before spot locked → new ≡ old → AgreesWith net rows new
  agrees_locked spot locked is same =
      still_agrees net before rows Nowhere Nowhere old new (subst (λ (t : KeptTimetableValue). Renews net rows Nowhere Nowhere old t) (sym same) (renews_none net rows old)) agrees
      (λ e below. rw is (inl (lock_keeps_floor net before spot locked e)))
      (λ a below. rw is (inl (lock_leaves net before spot locked a, lock_keeps_span net before spot locked a)))
      (rw is (lock_keeps_clock before spot locked))

  pub agrees_flipped : IsPaired net → (flip : Flip) → rows ≡ after_change before (Flipped flip) → Renews net rows Nowhere (IsDecided net flip) old new → AgreesWith net rows new
  agrees_flipped paired flip is renews =
      still_agrees net before rows Nowhere (IsDecided net flip) old new renews agrees
      (λ e below. rw is (inl (flip_keeps_floor net before flip e)))
      (λ a below. rw is (elim (flip_leaves net before flip a below (pair_ends net paired a below)) [
        | inl same ↦ inl (same, flip_keeps_span net before flip a)
        | inr there ↦ inr there
      ]))
      (rw is (flip_keeps_clock before flip))

  pub agrees_timed : (last : KeptTimetableValue) (t : ℕ) → rows ≡ after_change before (Clock t) → Renews net rows (IsMoved net old rows.clock) Nowhere old new → TakesClock rows new last → AgreesWith net rows last
  agrees_timed last t is renews takes =
      agrees_same net rows (record new { clock = rows.clock }) last takes.held takes.spans takes.floors takes.clock
      (timed_agrees net before rows (IsMoved net old rows.clock) Nowhere old new renews agrees
      (λ e below. moved_or_not e below)
      (λ a below. rw is (inl (refl, refl))))
    where
      moved_or_not : (e : ℕ) → e < length net.events → (floor_of net rows e ≡ floor_of net before e) ⊎ IsMoved net old rows.clock e
      moved_or_not e below =
          let clock = agrees.clock in
          let floor = agrees.floors.each e below in
          elim (cases_lt rows.clock old.clock) [
            | inl back ↦ inr (below, inl back)
            | inr on ↦ elim (cases_lt (event_at net e).time rows.clock) [
              | inl scheduled ↦ elim (cases_lt (slice_index old.floors e) rows.clock) [
                | inl early ↦ inr (below, inr (scheduled, early))
                | inr late ↦ inl (floor_stays net before rows e t is (omega arith) (omega arith))
              ]
              | inr late ↦ inl (late_floor_stays net before rows e t is (omega arith) (omega arith))
            ]
          ]

-- ---- after any change

pub times_for : (net : Net) (rows : RowsValue) (change : Change) (old new : KeptTimetableValue) → RenewsFor net rows change old new → new.times ≡ old.times
times_for net rows (EventDelay i d) old new renews = renews.keeps.times
times_for net rows (ActDelay a d) old new renews = renews.keeps.times
times_for net rows (Passed i t) old new renews = renews.keeps.times
times_for net rows (Recalled i) old new renews = renews.keeps.times
times_for net rows (Flipped flip) old new renews = renews.keeps.times
times_for net rows (Adopted flips) old new same = ap (λ (t : KeptTimetableValue). t.times) same
times_for net rows (Clock t) old new moves = moves.takes.times ∙ moves.renews.keeps.times
times_for net rows (Cancelled i) old new renews = renews.keeps.times
times_for net rows (Restored i) old new renews = renews.keeps.times
times_for net rows (Locked spot) old new same = ap (λ (t : KeptTimetableValue). t.times) same
times_for net rows (Unlocked spot) old new same = ap (λ (t : KeptTimetableValue). t.times) same

pub agrees_for : (net : Net) → IsPaired net → (before rows : RowsValue) (old new : KeptTimetableValue) → AgreesWith net before old → (change : Change) → is_adopted change ≡ false → rows ≡ after_change before change →
    RenewsFor net rows change old new → AgreesWith net rows new
agrees_for net paired before rows old new agrees (EventDelay i d) other is renews = agrees_delayed net before rows old new agrees i d is renews
agrees_for net paired before rows old new agrees (ActDelay a d) other is renews = agrees_lengthened net before rows old new agrees a d is renews
agrees_for net paired before rows old new agrees (Passed i t) other is renews = agrees_passed net before rows old new agrees i t is renews
agrees_for net paired before rows old new agrees (Recalled i) other is renews = agrees_recalled net before rows old new agrees i is renews
agrees_for net paired before rows old new agrees (Flipped flip) other is renews = agrees_flipped net before rows old new agrees paired flip is renews
agrees_for net paired before rows old new agrees (Adopted flips) other is renews = absurd (let both : true ≡ false = other in cc)
agrees_for net paired before rows old new agrees (Clock t) other is moves = agrees_timed net before rows old moves.mid agrees new t is moves.renews moves.takes
agrees_for net paired before rows old new agrees (Cancelled i) other is renews = agrees_cancelled net before rows old new agrees i is renews
agrees_for net paired before rows old new agrees (Restored i) other is renews = agrees_restored net before rows old new agrees i is renews
agrees_for net paired before rows old new agrees (Locked spot) other is same = agrees_locked net before rows old new agrees spot true is same
agrees_for net paired before rows old new agrees (Unlocked spot) other is same = agrees_locked net before rows old new agrees spot false is same

pub changes_net : (net : Net) (rows : RowsValue) (change : Change) → IsSized net rows → Reaches rows change → ChangesNet net change
changes_net net rows (EventDelay i d) sized reaches = let s = sized.event_delays in let r = reaches.0 in omega arith
changes_net net rows (ActDelay a d) sized reaches = let s = sized.act_delays in let r = reaches.0 in omega arith
changes_net net rows (Passed i t) sized reaches = let s = sized.passed in let r = reaches.0 in omega arith
changes_net net rows (Recalled i) sized reaches = let s = sized.passed in omega arith
changes_net net rows (Flipped (Keep a)) sized reaches = let s = sized.kept in omega arith
changes_net net rows (Flipped (Drop a)) sized reaches = let s = sized.kept in omega arith
changes_net net rows (Flipped (First p small)) sized reaches = let s = sized.small_first in omega arith
changes_net net rows (Adopted flips) sized reaches = tt
changes_net net rows (Clock t) sized reaches = tt
changes_net net rows (Cancelled i) sized reaches = let s = sized.cancelled in let r = reaches.0 in omega arith
changes_net net rows (Restored i) sized reaches = let s = sized.cancelled in omega arith
changes_net net rows (Locked spot) sized reaches = tt
changes_net net rows (Unlocked spot) sized reaches = tt
