-- What a move leaves settled.
use Rattle.std.proofs.Common.{◌≡◌, ◌≢◌, ℕ, ◌<◌, ◌≤◌, Bool, true, false, List, length, refl, sym, ap, subst, ◌∙◌, inl, inr, arith, slice_index, length-set, get_or-set_same, get_or-set_other}
use Rattle.std.specs.Prelude.{slice_set}
use Rattle.std.proofs.lemmas.Bool.{cases_eq}
use Rattle.dm_graph.specs.Arcs.{Binds}
use Rattle.dm_network.specs.Net.{Net, activity_at}
use Rattle.dm_network.specs.Held.{is_held}
use Rattle.dm_settle.specs.Constraints.{ConstraintsValue, arcs_given, graph_given}
use Rattle.dm_marks.specs.Marked.{is_marked}
use Rattle.dm_settle.specs.Settling.{IsSettled}
use Rattle.dm_marks.proofs.Marking.{mark_here}
use Rattle.dm_live.specs.Live.{AreMarked}

-- constraints ask the same of one event: its floor, and the activities into it
pub record AsksSame (net : Net) (given then : ConstraintsValue) (e : ℕ) : Type 0 where
  pub floor : slice_index then.floors e ≡ slice_index given.floors e
  pub held : (a : ℕ) → (activity_at net a).head ≡ e → is_held then.held a ≡ is_held given.held a
  pub spans : (a : ℕ) → (activity_at net a).head ≡ e → slice_index then.spans a ≡ slice_index given.spans a

module _ (net : Net) (given then : ConstraintsValue) (e : ℕ) (same : AsksSame net given then e) where
  binds_before : (a : ℕ) → (activity_at net a).head ≡ e → Binds (arcs_given net then) a → Binds (arcs_given net given) a
  binds_before a enters b = record {
    is_arc = b.is_arc;
    is_held = sym (same.held a enters) ∙ b.is_held;
    from_event = b.from_event;
    to_event = b.to_event;
  }

  binds_after : (a : ℕ) → (activity_at net a).head ≡ e → Binds (arcs_given net given) a → Binds (arcs_given net then) a
  binds_after a enters b = record {
    is_arc = b.is_arc;
    is_held = same.held a enters ∙ b.is_held;
    from_event = b.from_event;
    to_event = b.to_event;
  }

  pub still_settled : (times : List ℕ) → IsSettled (graph_given net given) times e → IsSettled (graph_given net then) times e
  still_settled times was = record {
    above = let f = same.floor in let h = was.above in omega arith;
    along = λ a b enters.
        let s = same.spans a enters in
        let h = was.along a (binds_before a enters b) enters in
        omega arith;
    least = λ u above along.
        let f = same.floor in
        was.least u (omega arith) (λ a b enters.
        let s = same.spans a enters in
        let h = along a (binds_after a enters b) enters in
        omega arith);
  }

-- another floor asks the same of the other events
pub floor_of_one : (net : Net) (given : ConstraintsValue) (i floor e : ℕ) → e ≢ i →
    AsksSame net given (record given { floors = slice_set given.floors i floor }) e
floor_of_one net given i floor e ne = record {
  floor = get_or-set_other given.floors i e floor 0 ne;
  held = λ a enters. refl;
  spans = λ a enters. refl;
}

marked_before : (marks : List Bool) (place k : ℕ) → place < length marks → is_marked (slice_set marks place true) k ≡ false → is_marked marks k ≡ false
marked_before marks place k below clear =
    elim (cases_eq k place) [
      | inl is ↦ let here : is_marked (slice_set marks place true) k ≡ true = subst (λ (j : ℕ). is_marked (slice_set marks place true) j ≡ true) (sym is) (mark_here marks place true below) in absurd cc
      | inr ne ↦ sym (get_or-set_other marks place k true false ne) ∙ clear
    ]

-- where constraints ask the same of all events but one, its mark is enough
pub marked_for_one : (net : Net) (given then : ConstraintsValue) (marks : List Bool) (times : List ℕ) (i : ℕ) →
    i < length net.events → ((e : ℕ) → e ≢ i → AsksSame net given then e) →
    AreMarked (graph_given net given) marks times → AreMarked (graph_given net then) (slice_set marks i true) times
marked_for_one net given then marks times i is_event others was =
    let many = was.as_many_marks in
    let below : i < length marks = omega arith in
    record {
      as_many_marks = length-set marks i true ∙ was.as_many_marks;
      as_many_times = was.as_many_times;
      settled = λ e lt clear.
          let other : e ≢ i = λ is.
          let here : is_marked (slice_set marks i true) e ≡ true =
          subst (λ (j : ℕ). is_marked (slice_set marks i true) j ≡ true) (sym is) (mark_here marks i true below) in
          absurd cc in
          still_settled net given then e (others e other) times (was.settled e lt (marked_before marks i e below clear));
    }

-- a floor that does not fall, and is not above the time of the event, leaves the event settled
pub raised_settled : (net : Net) (given : ConstraintsValue) (times : List ℕ) (i floor : ℕ) → i < length given.floors →
    slice_index given.floors i ≤ floor → floor ≤ slice_index times i →
    IsSettled (graph_given net given) times i → IsSettled (graph_given net (record given { floors = slice_set given.floors i floor })) times i
raised_settled net given times i floor below rises low was =
    let now : slice_index (slice_set given.floors i floor) i ≡ floor = get_or-set_same given.floors i floor 0 below in
    record {
      above = omega arith;
      along = was.along;
      least = λ u above along. was.least u (omega arith) along;
    }

pub marked_for_none : (net : Net) (given : ConstraintsValue) (marks : List Bool) (times : List ℕ) (i floor : ℕ) → i < length given.floors →
    slice_index given.floors i ≤ floor → floor ≤ slice_index times i →
    AreMarked (graph_given net given) marks times → AreMarked (graph_given net (record given { floors = slice_set given.floors i floor })) marks times
marked_for_none net given marks times i floor below rises low was =
    record {
      as_many_marks = was.as_many_marks;
      as_many_times = was.as_many_times;
      settled = λ e lt clear. elim (cases_eq e i) [
        | inl is ↦
            let here : IsSettled (graph_given net given) times i = subst (IsSettled (graph_given net given) times) is (was.settled e lt clear) in
            subst (IsSettled (graph_given net (record given { floors = slice_set given.floors i floor })) times) (sym is)
            (raised_settled net given times i floor below rises low here)
        | inr ne ↦ still_settled net given _ e (floor_of_one net given i floor e ne) times (was.settled e lt clear)
      ];
    }

other_arc : (net : Net) (a e b : ℕ) → e ≢ (activity_at net a).head → (activity_at net b).head ≡ e → b ≢ a
other_arc net a e b ne enters is = ne (sym enters ∙ ap (λ (c : ℕ). (activity_at net c).head) is)

-- another span, and an activity held or not, ask the same of all events but the head
pub span_of_one : (net : Net) (given : ConstraintsValue) (a span e : ℕ) → e ≢ (activity_at net a).head →
    AsksSame net given (record given { spans = slice_set given.spans a span }) e
span_of_one net given a span e ne = record {
  floor = refl;
  held = λ b enters. refl;
  spans = λ b enters. get_or-set_other given.spans a b span 0 (other_arc net a e b ne enters);
}

pub held_of_one : (net : Net) (given : ConstraintsValue) (a : ℕ) (held : Bool) (e : ℕ) → e ≢ (activity_at net a).head →
    AsksSame net given (record given { held = slice_set given.held a held }) e
held_of_one net given a held e ne = record {
  floor = refl;
  held = λ b enters. get_or-set_other given.held a b held false (other_arc net a e b ne enters);
  spans = λ b enters. refl;
}
