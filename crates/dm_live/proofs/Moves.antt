-- A move, and a sweep, keep a timetable live.
use Rattle.std.proofs.Common.{◌≡◌, ℕ, ◌<◌, ◌≤◌, Bool, true, false, List, [], ◌∷◌, length, sym, ap, subst, ◌∙◌, if◌then◌else◌, inl, inr, arith, slice_index, length-set, get_or-set_same, get_or-set_other}
use Rattle.std.specs.Prelude.{slice_set}
use Rattle.std.proofs.lemmas.Bool.{cases_eq}
use Rattle.dm_graph.specs.Arcs.{Arcs}
use Rattle.dm_network.specs.Net.{Net, activity_at, EndsAreKnown}
use Rattle.dm_network.specs.Held.{is_held}
use Rattle.dm_order.specs.Value.{OrderValue}
use Rattle.dm_order.specs.Orders.{IsOrderOf, held_with, held_without}
use Rattle.dm_settle.specs.Constraints.{ConstraintsValue, arcs_given, graph_given}
use Rattle.dm_settle.specs.Settling.{AreLeast, GoesForward, MarksUnsettled}
use Rattle.dm_settle.specs.Settling.{ReadsFew as PassReadsFew}
use Rattle.dm_settle.proofs.Least.{least_is_settled}
use Rattle.dm_live.specs.Live.{IsLive, LiveValue, ReadsFew, AreMarked, is_fixed, HoldsUnfixed, FixedStand, with_floor}
use Rattle.dm_live.specs.Inside.Placing.{ArePlaced}
use Rattle.dm_live.proofs.Moving.{marked_for_one, marked_for_none, floor_of_one, span_of_one, held_of_one}
use Rattle.dm_live.proofs.Ordering.{with_one, without_one}
use Rattle.dm_live.proofs.Standing.{least_stand, goes_forward, marks_unsettled}

module _ (net : Net) (live : LiveValue) (is : IsLive net live) where
  -- a fixed event that keeps its floor stands
  floor_stands : (i floor : ℕ) → i < length net.events → (is_fixed live.fixed i ≡ true → floor ≡ slice_index live.given.floors i) →
      FixedStand net (record live.given { floors = slice_set live.given.floors i floor }) live.times live.fixed
  floor_stands i floor lt stays e on = record {
    entered = (is.stand e on).entered;
    at_floor = (is.stand e on).at_floor ∙ elim (cases_eq e i) [
      | inl here ↦
          let same : floor ≡ slice_index live.given.floors i = stays (ap (is_fixed live.fixed) (sym here) ∙ on) in
          let size = is.sized.floors in
          ap (slice_index live.given.floors) here ∙ sym same ∙ sym (get_or-set_same live.given.floors i floor 0 (omega arith))
          ∙ ap (slice_index (slice_set live.given.floors i floor)) (sym here)
      | inr other ↦ sym (get_or-set_other live.given.floors i e floor 0 other)
    ];
  }

  -- with another floor of an event it is live, whatever marks take in what may not have its time
  floor_live : (i floor : ℕ) → i < length net.events → (is_fixed live.fixed i ≡ true → floor ≡ slice_index live.given.floors i) → (marks : List Bool) →
      AreMarked (graph_given net (with_floor live.given i floor)) marks live.times →
      IsLive net (record { given = with_floor live.given i floor; order = live.order; times = live.times; marks = marks; fixed = live.fixed })
  floor_live i floor lt stays marks marked = record {
    sized = record { held = is.sized.held; floors = length-set live.given.floors i floor ∙ is.sized.floors; spans = is.sized.spans };
    ordered = is.ordered;
    as_many_fixed = is.as_many_fixed;
    in_order = is.in_order;
    stand = floor_stands i floor lt stays;
    marked = marked;
  }

  pub floor_moves : (i floor : ℕ) → i < length net.events → (is_fixed live.fixed i ≡ true → floor ≡ slice_index live.given.floors i) → (given : ConstraintsValue) (marks : List Bool) →
      given ≡ record live.given { floors = slice_set live.given.floors i floor } → marks ≡ slice_set live.marks i true →
      IsLive net (record { given = given; order = live.order; times = live.times; marks = marks; fixed = live.fixed })
  floor_moves i floor lt stays given marks given_is marks_are =
      subst (λ (g : ConstraintsValue). IsLive net (record { given = g; order = live.order; times = live.times; marks = marks; fixed = live.fixed })) (sym given_is)
      (subst (λ (ms : List Bool). IsLive net (record { given = with_floor live.given i floor; order = live.order; times = live.times; marks = ms; fixed = live.fixed })) (sym marks_are)
      (floor_live i floor lt stays (slice_set live.marks i true)
      (marked_for_one net live.given (with_floor live.given i floor) live.marks live.times i lt (floor_of_one net live.given i floor) is.marked)))

  pub floor_rises : (i floor : ℕ) → i < length net.events → (is_fixed live.fixed i ≡ true → floor ≡ slice_index live.given.floors i) → slice_index live.given.floors i ≤ floor → floor ≤ slice_index live.times i →
      (given : ConstraintsValue) → given ≡ record live.given { floors = slice_set live.given.floors i floor } →
      IsLive net (record { given = given; order = live.order; times = live.times; marks = live.marks; fixed = live.fixed })
  floor_rises i floor lt stays rises low given given_is =
      let size = is.sized.floors in
      subst (λ (g : ConstraintsValue). IsLive net (record { given = g; order = live.order; times = live.times; marks = live.marks; fixed = live.fixed })) (sym given_is)
      (floor_live i floor lt stays live.marks (marked_for_none net live.given live.marks live.times i floor (omega arith) rises low is.marked))

  pub span_moves : EndsAreKnown net → (a span : ℕ) → a < length net.activities → (given : ConstraintsValue) (marks : List Bool) →
      given ≡ record live.given { spans = slice_set live.given.spans a span } → marks ≡ slice_set live.marks (activity_at net a).head true →
      IsLive net (record { given = given; order = live.order; times = live.times; marks = marks; fixed = live.fixed })
  span_moves known a span lt given marks given_is marks_are =
      subst (λ (g : ConstraintsValue). IsLive net (record { given = g; order = live.order; times = live.times; marks = marks; fixed = live.fixed })) (sym given_is)
      (subst (λ (ms : List Bool). IsLive net (record { given = record live.given { spans = slice_set live.given.spans a span }; order = live.order; times = live.times; marks = ms; fixed = live.fixed })) (sym marks_are)
      (record {
        sized = record { held = is.sized.held; floors = is.sized.floors; spans = length-set live.given.spans a span ∙ is.sized.spans };
        ordered = is.ordered;
        as_many_fixed = is.as_many_fixed;
        in_order = is.in_order;
        stand = λ e on. record { entered = (is.stand e on).entered; at_floor = (is.stand e on).at_floor };
        marked = marked_for_one net live.given (record live.given { spans = slice_set live.given.spans a span }) live.marks live.times
            (activity_at net a).head (known.heads a lt) (span_of_one net live.given a span) is.marked;
      }))

  in_flags : (a : ℕ) → a < length net.activities → a < length live.given.held
  in_flags a lt = let size = is.sized.held in omega arith

  -- what is held into an event that is not fixed leaves the fixed ones standing
  flag_stands : (a : ℕ) (flag : Bool) → a < length live.given.held → (flag ≡ true → is_fixed live.fixed (activity_at net a).head ≡ false) →
      FixedStand net (record live.given { held = slice_set live.given.held a flag }) live.times live.fixed
  flag_stands a flag below free e on = record {
    entered = λ b lt holds. elim (cases_eq b a) [
      | inl here ↦ λ head.
          let flag_on : flag ≡ true =
          sym (get_or-set_same live.given.held a flag false below) ∙ ap (is_held (slice_set live.given.held a flag)) (sym here) ∙ holds in
          let off : is_fixed live.fixed e ≡ false =
          ap (is_fixed live.fixed) (sym head ∙ ap (λ (c : ℕ). (activity_at net c).head) here) ∙ free flag_on in
          absurd cc
      | inr other ↦ (is.stand e on).entered b lt (sym (get_or-set_other live.given.held a b flag false other) ∙ holds)
    ];
    at_floor = (is.stand e on).at_floor;
  }

  flag_moves : EndsAreKnown net → (a : ℕ) (flag : Bool) → a < length net.activities → (flag ≡ true → is_fixed live.fixed (activity_at net a).head ≡ false) → (order : OrderValue) (given : ConstraintsValue) (marks : List Bool) →
      IsOrderOf net order → HoldsUnfixed net order (record live.given { held = slice_set live.given.held a flag }) live.fixed →
      given ≡ record live.given { held = slice_set live.given.held a flag } → marks ≡ slice_set live.marks (activity_at net a).head true →
      IsLive net (record { given = given; order = order; times = live.times; marks = marks; fixed = live.fixed })
  flag_moves known a flag lt free order given marks ordered in_order given_is marks_are =
      subst (λ (g : ConstraintsValue). IsLive net (record { given = g; order = order; times = live.times; marks = marks; fixed = live.fixed })) (sym given_is)
      (subst (λ (ms : List Bool). IsLive net (record { given = record live.given { held = slice_set live.given.held a flag }; order = order; times = live.times; marks = ms; fixed = live.fixed })) (sym marks_are)
      (record {
        sized = record { held = length-set live.given.held a flag ∙ is.sized.held; floors = is.sized.floors; spans = is.sized.spans };
        ordered = ordered;
        as_many_fixed = is.as_many_fixed;
        in_order = in_order;
        stand = flag_stands a flag (in_flags a lt) free;
        marked = marked_for_one net live.given (record live.given { held = slice_set live.given.held a flag }) live.marks live.times
            (activity_at net a).head (known.heads a lt) (held_of_one net live.given a flag) is.marked;
      }))

  pub release_moves : EndsAreKnown net → (a : ℕ) → a < length net.activities → (order : OrderValue) (given : ConstraintsValue) (marks : List Bool) →
      ((n : Net) → IsOrderOf n live.order → IsOrderOf n order) → ((b : ℕ) → is_held order.held b ≡ held_without live.order.held (a ∷ []) b) →
      given ≡ record live.given { held = slice_set live.given.held a false } → marks ≡ slice_set live.marks (activity_at net a).head true →
      IsLive net (record { given = given; order = order; times = live.times; marks = marks; fixed = live.fixed })
  release_moves known a lt order given marks ordered held given_is marks_are =
      flag_moves known a false lt (λ on. absurd (let no : false ≡ true = on in cc)) order given marks (ordered net is.ordered)
      (λ b below. held b ∙ without_one net live.order live.given live.fixed is.in_order a lt (in_flags a lt) b below) given_is marks_are

  pub hold_moves : EndsAreKnown net → (a : ℕ) → a < length net.activities → is_fixed live.fixed (activity_at net a).head ≡ false →
      (fixed : Bool) → fixed ≡ is_fixed live.fixed (activity_at net a).tail → (order : OrderValue) (given : ConstraintsValue) (marks : List Bool) →
      IsOrderOf net order → ((b : ℕ) → is_held order.held b ≡ (if fixed then is_held live.order.held b else held_with live.order.held (a ∷ []) b)) →
      given ≡ record live.given { held = slice_set live.given.held a true } → marks ≡ slice_set live.marks (activity_at net a).head true →
      IsLive net (record { given = given; order = order; times = live.times; marks = marks; fixed = live.fixed })
  hold_moves known a lt free fixed fixed_is order given marks ordered held given_is marks_are =
      flag_moves known a true lt (λ on. free) order given marks ordered
      (λ b below. held b ∙ ap (λ (c : Bool). if c then is_held live.order.held b else held_with live.order.held (a ∷ []) b) fixed_is
      ∙ with_one net live.order live.given live.fixed is.in_order a lt (in_flags a lt) b below) given_is marks_are

  -- a sweep may begin where the marks of the events that are not fixed are at their places
  pub sweep_begins : (ranks again : List ℕ) (flags placed : List Bool) → ranks ≡ live.order.ranks → again ≡ live.order.ranks → flags ≡ live.fixed →
      ArePlaced (length live.marks) ranks live.marks flags placed →
      GoesForward (arcs_given net live.given) again placed × MarksUnsettled (graph_given net live.given) again placed live.times
  sweep_begins ranks again flags placed ranks_are again_is flags_are at =
      let many = is.marked.as_many_marks in
      let there : ArePlaced (length live.marks) live.order.ranks live.marks live.fixed placed =
      subst (λ (fs : List Bool). ArePlaced (length live.marks) live.order.ranks live.marks fs placed) flags_are
      (subst (λ (rs : List ℕ). ArePlaced (length live.marks) rs live.marks flags placed) ranks_are at) in (
        subst (λ (rs : List ℕ). GoesForward (arcs_given net live.given) rs placed) (sym again_is)
            (goes_forward net live.order live.given live.fixed live.times is.ordered is.in_order is.stand live.marks placed many there),
        subst (λ (rs : List ℕ). MarksUnsettled (graph_given net live.given) rs placed live.times) (sym again_is)
            (marks_unsettled net live.order live.given live.fixed live.times is.ordered is.in_order is.stand live.marks placed many there is.marked),
      )

  pub settled_live : (times : List ℕ) (marks : List Bool) → AreLeast (graph_given net live.given) times → length marks ≡ length live.marks →
      IsLive net (record { given = live.given; order = live.order; times = times; marks = marks; fixed = live.fixed })
  settled_live times marks least room = record {
    sized = is.sized;
    ordered = is.ordered;
    as_many_fixed = is.as_many_fixed;
    in_order = is.in_order;
    stand = least_stand net live.order live.given live.fixed live.times is.ordered is.in_order is.stand is.as_many_fixed times least;
    marked = record {
      as_many_marks = room ∙ is.marked.as_many_marks;
      as_many_times = least.as_many;
      settled = λ e lt clear. least_is_settled (graph_given net live.given) times least e lt;
    };
  }

pub reads_few : (g : Arcs) (ranks : List ℕ) (before after : LiveValue) (placed placed_now : List Bool) (times times_now : List ℕ) (first last : ℕ) →
    length before.marks ≡ g.events → ArePlaced (length before.marks) ranks before.marks before.fixed placed → times ≡ before.times → times_now ≡ after.times →
    PassReadsFew g ranks (record { marks = placed; times = times; steps = first }) (record { marks = placed_now; times = times_now; steps = last }) →
    ReadsFew g before after first last
reads_few g ranks before after placed placed_now times times_now first last many are times_are now_are sweep = record {
  renewed = sweep.renewed;
  moved = sweep.moved;
  counted = sweep.counted;
  reads = record {
    are_events = sweep.reads.are_events;
    renewed_once = sweep.reads.renewed_once;
    moved_once = sweep.reads.moved_once;
    caused = λ e c. elim (sweep.reads.caused e c) [
      | inl marked ↦ let lt = sweep.reads.are_events e c in inl (are.only e (omega arith) marked).marked
      | inr follows ↦ inr follows
    ];
    differs = λ e c same. sweep.reads.differs e c
        (ap (λ (ts : List ℕ). slice_index ts e) times_are ∙ same ∙ ap (λ (ts : List ℕ). slice_index ts e) (sym now_are));
  };
}
