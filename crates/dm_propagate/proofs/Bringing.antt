-- A timetable that is brought to follow rows at what a change concerns.
use Rattle.std.proofs.Common.{◌≡◌, ℕ, ◌<◌, ◌≤◌, Bool, List, length, refl, sym, ap, subst, ◌∙◌, ◌⊎◌, inl, inr, slice_index, get_or-set_same, get_or-set_other}
use Rattle.std.specs.Prelude.{slice_set}
use Rattle.std.proofs.lemmas.Bool.{cases_eq, cases_lt}
use Rattle.dm_network.specs.Net.{Net}
use Rattle.dm_network.specs.Held.{is_held}
use Rattle.dm_rows.specs.Active.{is_active, IsCycle}
use Rattle.dm_rows.specs.Rows.{RowsValue}
use Rattle.dm_rows.specs.Timetable.{floor_of, span_of}
use Rattle.dm_rows.specs.declared.messages.Change.{Change}
use Rattle.dm_rows.specs.declared.messages.Change.TheVariants.{EventDelay}
use Rattle.dm_settle.specs.Constraints.{ConstraintsValue}
use Rattle.dm_marks.specs.Marked.{is_marked}
use Rattle.dm_marks.proofs.Marking.{marked_if}
use Rattle.dm_live.specs.Live.{LiveValue, with_floor, with_span, with_mark}
use Rattle.dm_propagate.specs.Engine.{FollowsRows}
use Rattle.dm_propagate.specs.Inside.Changing.{Turns, IsTurnRefused, HasFloors, MarksOnly}
use Rattle.dm_propagate.specs.Inside.Concern.{LeadsAt, IsConcerned, MovesFloor, MovesSpan, FollowsBut}
use Rattle.dm_propagate.specs.Inside.Noting.{KeepsTimesBut}

-- a number that is set in a list, and those beside it
set_here : (xs : List ℕ) (e i v : ℕ) → i ≡ e → e < length xs → slice_index (slice_set xs e v) i ≡ v
set_here xs e i v is below = ap (slice_index (slice_set xs e v)) is ∙ get_or-set_same xs e v 0 below

-- what a delay may move
pub floor_moved : (rows : RowsValue) (change : Change) (e d i : ℕ) → change ≡ EventDelay e d → MovesFloor rows change i → i ≡ e
floor_moved rows change e d i is moves = let m : MovesFloor rows (EventDelay e d) i = subst (λ (c : Change). MovesFloor rows c i) is moves in m.0

-- a floor that lies below the one before it, or above the time, or neither
pub off_or_not : (floor before time : ℕ) (P Q : Type 0) → ((floor < before) ⊎ (time < floor) → P) → (before ≤ floor → floor ≤ time → Q) → P ⊎ Q
off_or_not floor before time P Q off on = elim (cases_lt floor before) [
  | inl below ↦ inl (off (inl below))
  | inr not_below ↦ elim (cases_lt time floor) [ inl above ↦ inl (off (inr above)) | inr within ↦ inr (on not_below within) ]
]

-- times that stay, and times that stay but at some events
pub times_stay : (some : ℕ → Type 0) (before after : List ℕ) → after ≡ before → KeepsTimesBut some before after
times_stay some before after is = record { each = λ i. inr (ap (λ (xs : List ℕ). slice_index xs i) is) }

pub times_but : (some more : ℕ → Type 0) (before after : List ℕ) → ((i : ℕ) → some i → more i) → KeepsTimesBut some before after →
    KeepsTimesBut more before after
times_but some more before after among keeps = record { each = λ i. elim (keeps.each i) [ inl at ↦ inl (among i at) | inr same ↦ inr same ] }

-- one event is marked at most, and nothing else moves
pub marks_one : (e first last : ℕ) (before after : LiveValue) → after.times ≡ before.times →
    (after.marks ≡ with_mark before.marks e) ⊎ (after.marks ≡ before.marks) → last ≡ first → MarksOnly (λ i. i ≡ e) before after first last
marks_one e first last before after times marks steps = record {
  times = times;
  marked = λ i m. elim marks [
    | inl one ↦ marked_if before.marks e i (ap (λ (ms : List Bool). is_marked ms i) (sym one) ∙ m)
    | inr none ↦ inl (ap (λ (ms : List Bool). is_marked ms i) (sym none) ∙ m)
  ];
  steps = steps;
}

module _ (net : Net) (rows : RowsValue) (change : Change) (before after : ConstraintsValue) (follows : FollowsBut net rows change before) where
  -- the floors where that of one event is set, and where the change moves no other
  pub floor_set : (e : ℕ) → e < length before.floors → ((i : ℕ) → MovesFloor rows change i → i ≡ e) →
      after.floors ≡ slice_set before.floors e (floor_of net rows e) → (i : ℕ) → i < length net.events → slice_index after.floors i ≡ floor_of net rows i
  floor_set e below only is i lt = ap (λ (xs : List ℕ). slice_index xs i) is ∙ elim (cases_eq i e) [
    | inl same ↦ set_here before.floors e i (floor_of net rows e) same below ∙ ap (floor_of net rows) (sym same)
    | inr other ↦ get_or-set_other before.floors e i (floor_of net rows e) 0 other ∙ elim (follows.floors i lt) [
      | inl right ↦ right
      | inr moves ↦ absurd (other (only i moves))
    ]
  ]

  floors_stay : ((i : ℕ) → MovesFloor rows change i → ⊥) → after.floors ≡ before.floors → (i : ℕ) → i < length net.events →
      slice_index after.floors i ≡ floor_of net rows i
  floors_stay none is i lt = ap (λ (xs : List ℕ). slice_index xs i) is ∙ elim (follows.floors i lt) [ inl right ↦ right | inr moves ↦ absurd (none i moves) ]

  spans_stay : ((a : ℕ) → MovesSpan change a → ⊥) → after.spans ≡ before.spans → (a : ℕ) → a < length net.activities →
      slice_index after.spans a ≡ span_of net rows a
  spans_stay none is a lt = ap (λ (xs : List ℕ). slice_index xs a) is ∙ elim (follows.spans a lt) [ inl right ↦ right | inr moves ↦ absurd (none a moves) ]

  held_stays : ((a : ℕ) → IsConcerned net change a → ⊥) → after.held ≡ before.held → (a : ℕ) → a < length net.activities →
      is_held after.held a ≡ is_active net rows a
  held_stays none is a lt = ap (λ (flags : List Bool). is_held flags a) is ∙ elim (follows.held a lt) [ inl right ↦ right | inr concerned ↦ absurd (none a concerned) ]

  -- the floor of one event alone is set
  pub follows_floor : (e : ℕ) → e < length before.floors → after ≡ with_floor before e (floor_of net rows e) → ((i : ℕ) → MovesFloor rows change i → i ≡ e) →
      ((a : ℕ) → IsConcerned net change a → ⊥) → ((a : ℕ) → MovesSpan change a → ⊥) → FollowsRows net rows after
  follows_floor e below is only no_activity no_span = record {
    held = held_stays no_activity (ap (λ (g : ConstraintsValue). g.held) is);
    floors = floor_set e below only (ap (λ (g : ConstraintsValue). g.floors) is);
    spans = spans_stay no_span (ap (λ (g : ConstraintsValue). g.spans) is);
  }

  -- the span of one activity alone is set
  pub follows_span : (b : ℕ) → b < length before.spans → after ≡ with_span before b (span_of net rows b) → ((a : ℕ) → MovesSpan change a → a ≡ b) →
      ((a : ℕ) → IsConcerned net change a → ⊥) → ((i : ℕ) → MovesFloor rows change i → ⊥) → FollowsRows net rows after
  follows_span b below is only no_activity no_floor = record {
    held = held_stays no_activity (ap (λ (g : ConstraintsValue). g.held) is);
    floors = floors_stay no_floor (ap (λ (g : ConstraintsValue). g.floors) is);
    spans = λ a lt. ap (λ (g : ConstraintsValue). slice_index g.spans a) is ∙ elim (cases_eq a b) [
      | inl same ↦ set_here before.spans b a (span_of net rows b) same below ∙ ap (span_of net rows) (sym same)
      | inr other ↦ get_or-set_other before.spans b a (span_of net rows b) 0 other ∙ elim (follows.spans a lt) [
        | inl right ↦ right
        | inr moves ↦ absurd (other (only a moves))
      ]
    ];
  }

module _ (net : Net) (rows : RowsValue) (change : Change) (before after : LiveValue) (follows : FollowsBut net rows change before.given) where
  -- all floors are set
  pub follows_floors : HasFloors net rows (length net.events) before after → ((a : ℕ) → IsConcerned net change a → ⊥) →
      ((a : ℕ) → MovesSpan change a → ⊥) → FollowsRows net rows after.given
  follows_floors has no_activity no_span = record {
    held = held_stays net rows change before.given after.given follows no_activity has.held;
    floors = has.floors;
    spans = spans_stay net rows change before.given after.given follows no_span has.spans;
  }

  module _ (some : ℕ → Type 0) (among : (b : ℕ) → IsConcerned net change b → some b) where
    either : (a : ℕ) → a < length net.activities → (is_held before.given.held a ≡ is_active net rows a) ⊎ some a
    either a lt = elim (follows.held a lt) [ inl is ↦ inl is | inr concerned ↦ inr (among a concerned) ]

    -- activities are turned, and floors follow
    follows_turned : Turns net rows some before after → ((i : ℕ) → i < length net.events → slice_index after.given.floors i ≡ floor_of net rows i) →
        ((a : ℕ) → MovesSpan change a → ⊥) → FollowsRows net rows after.given
    follows_turned turns floors no_span = record {
      held = λ a lt. turns.held a lt (either a lt);
      floors = floors;
      spans = spans_stay net rows change before.given after.given follows no_span turns.spans;
    }

    -- one of them is refused
    pub cycle_at : IsTurnRefused net rows some before after → IsCycle net rows after.order.cycle
    cycle_at refused = refused.cycle either

  -- at an event
  pub follows_at : (e : ℕ) → ((b : ℕ) → IsConcerned net change b → LeadsAt net e b) → ((i : ℕ) → MovesFloor rows change i → i ≡ e) →
      ((a : ℕ) → MovesSpan change a → ⊥) → e < length before.given.floors →
      after.given.floors ≡ slice_set before.given.floors e (floor_of net rows e) → Turns net rows (LeadsAt net e) before after →
      FollowsRows net rows after.given
  follows_at e among only no_span below floors turns =
      follows_turned (LeadsAt net e) among turns (floor_set net rows change before.given after.given follows e below only floors) no_span

  pub followed_at : (e : ℕ) → ((b : ℕ) → IsConcerned net change b → LeadsAt net e b) → ((b : ℕ) → LeadsAt net e b → IsConcerned net change b) →
      ((i : ℕ) → MovesFloor rows change i → i ≡ e) → e < length before.given.floors →
      after.given.floors ≡ slice_set before.given.floors e (floor_of net rows e) → IsTurnRefused net rows (LeadsAt net e) before after →
      FollowsBut net rows change after.given
  followed_at e among back only below floors refused = record {
    held = λ a lt. elim (refused.held a lt (either (LeadsAt net e) among a lt)) [ inl is ↦ inl is | inr at ↦ inr (back a at) ];
    floors = λ i lt. inl (floor_set net rows change before.given after.given follows e below only floors i lt);
    spans = λ a lt. elim (follows.spans a lt) [ inl is ↦ inl (ap (λ (xs : List ℕ). slice_index xs a) refused.spans ∙ is) | inr moves ↦ inr moves ];
  }

  -- at what flips decide about
  pub follows_by : (some : ℕ → Type 0) → ((b : ℕ) → IsConcerned net change b → some b) → ((i : ℕ) → MovesFloor rows change i → ⊥) →
      ((a : ℕ) → MovesSpan change a → ⊥) → after.given.floors ≡ before.given.floors → Turns net rows some before after → FollowsRows net rows after.given
  follows_by some among no_floor no_span floors turns =
      follows_turned some among turns (floors_stay net rows change before.given after.given follows no_floor floors) no_span

-- where a change concerns nothing
pub follows_still : (net : Net) (rows : RowsValue) (change : Change) (given : ConstraintsValue) → FollowsBut net rows change given →
    ((a : ℕ) → IsConcerned net change a → ⊥) → ((i : ℕ) → MovesFloor rows change i → ⊥) → ((a : ℕ) → MovesSpan change a → ⊥) →
    FollowsRows net rows given
follows_still net rows change given follows no_activity no_floor no_span = record {
  held = held_stays net rows change given given follows no_activity refl;
  floors = floors_stay net rows change given given follows no_floor refl;
  spans = spans_stay net rows change given given follows no_span refl;
}

pub marks_none : (live : LiveValue) (steps : ℕ) → MarksOnly (λ e. ⊥) live live steps steps
marks_none live steps = record { times = refl; marked = λ e m. inl m; steps = refl }
