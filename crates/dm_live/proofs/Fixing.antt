-- An event whose time is fixed.
use Rattle.std.proofs.Common.{◌≡◌, ◌≢◌, ℕ, ◌<◌, Bool, true, false, List, length, sym, ap, subst, ◌∙◌, inl, inr, arith, slice_index, length-set, get_or-set_same, get_or-set_other}
use Rattle.std.specs.Prelude.{slice_set}
use Rattle.std.proofs.lemmas.Bool.{cases_eq, cases_Bool}
use Rattle.dm_graph.specs.Arcs.{Binds}
use Rattle.dm_network.specs.Net.{Net, activity_at, places_out_of}
use Rattle.dm_network.specs.Held.{is_held}
use Rattle.dm_order.specs.Value.{OrderValue}
use Rattle.dm_order.specs.Orders.{IsOrderOf, held_without}
use Rattle.dm_settle.specs.Constraints.{ConstraintsValue, arcs_given, graph_given}
use Rattle.dm_marks.specs.Marked.{is_marked}
use Rattle.dm_settle.specs.Settling.{IsSettled}
use Rattle.dm_live.specs.Live.{IsLive, LiveValue, AreMarked, MarksHeads, IsEnteredByNone, Stands, FixedStand, HoldsUnfixed, with_floor}
use Rattle.dm_live.proofs.OutOf.{fixed_in_order}
use Rattle.dm_live.proofs.Standing.{flag_there}

module _ (net : Net) (live : LiveValue) (is : IsLive net live) (i time : ℕ) (lt : i < length net.events)
    (entered : IsEnteredByNone net live.given.held i) (row : List ℕ) (row_is : row ≡ places_out_of net i) (order : OrderValue) (fixed : List Bool)
    (ordered : IsOrderOf net order) (held : (b : ℕ) → is_held order.held b ≡ held_without live.order.held row b) (fixed_is : fixed ≡ slice_set live.fixed i true) where
  in_order : HoldsUnfixed net order live.given (slice_set live.fixed i true)
  in_order = let many = is.as_many_fixed in fixed_in_order net i row row_is live.order order live.given live.fixed is.in_order (omega arith) held

  floor_here : slice_index (slice_set live.given.floors i time) i ≡ time
  floor_here = let size = is.sized.floors in get_or-set_same live.given.floors i time 0 (omega arith)

  time_here : slice_index (slice_set live.times i time) i ≡ time
  time_here = let many = is.marked.as_many_times in get_or-set_same live.times i time 0 (omega arith)

  time_there : (e : ℕ) → e ≢ i → slice_index (slice_set live.times i time) e ≡ slice_index live.times e
  time_there e ne = get_or-set_other live.times i e time 0 ne

  fixed_here : IsSettled (graph_given net (with_floor live.given i time)) (slice_set live.times i time) i
  fixed_here = record {
    above = let f = floor_here in let t = time_here in omega arith;
    along = λ a binds enters. absurd (entered a binds.is_arc binds.is_held enters);
    least = λ u above along. let f = floor_here in let t = time_here in omega arith;
  }

  fixed_there : (e : ℕ) → e ≢ i →
      ((a : ℕ) → Binds (arcs_given net live.given) a → (activity_at net a).head ≡ e →
      slice_index (slice_set live.times i time) (activity_at net a).tail ≡ slice_index live.times (activity_at net a).tail) →
      IsSettled (graph_given net live.given) live.times e → IsSettled (graph_given net (with_floor live.given i time)) (slice_set live.times i time) e
  fixed_there e ne tails was =
      let floor : slice_index (slice_set live.given.floors i time) e ≡ slice_index live.given.floors e = get_or-set_other live.given.floors i e time 0 ne in
      let there = time_there e ne in
      record {
        above = let h = was.above in omega arith;
        along = λ a binds enters. let h = was.along a binds enters in let t = tails a binds enters in omega arith;
        least = λ u above along.
            let h = was.least u (omega arith) (λ a binds enters. let k = along a binds enters in let t = tails a binds enters in omega arith) in
            omega arith;
      }

  -- where the time is the same, no other event is concerned; where it is not, the marked heads take in all that are
  fixed_marks : (marks : List Bool) → length marks ≡ length live.marks →
      ((e : ℕ) → e ≢ i → is_marked marks e ≡ false → is_marked live.marks e ≡ false) →
      ((a : ℕ) → Binds (arcs_given net live.given) a → (activity_at net a).tail ≡ i → is_marked marks (activity_at net a).head ≡ false → slice_index live.times i ≡ time) →
      AreMarked (graph_given net (with_floor live.given i time)) marks (slice_set live.times i time)
  fixed_marks marks many unmarked heads = record {
    as_many_marks = many ∙ is.marked.as_many_marks;
    as_many_times = length-set live.times i time ∙ is.marked.as_many_times;
    settled = λ e below clear. elim (cases_eq e i) [
      | inl here ↦ subst (IsSettled (graph_given net (with_floor live.given i time)) (slice_set live.times i time)) (sym here) fixed_here
      | inr ne ↦ fixed_there e ne
          (λ a binds enters. elim (cases_eq (activity_at net a).tail i) [
            | inl from ↦
                let clear_head : is_marked marks (activity_at net a).head ≡ false = ap (is_marked marks) enters ∙ clear in
                let same = heads a binds from clear_head in
                ap (slice_index (slice_set live.times i time)) from ∙ time_here ∙ sym same ∙ ap (slice_index live.times) (sym from)
            | inr other ↦ time_there (activity_at net a).tail other
          ])
          (is.marked.settled e below (unmarked e ne clear))
    ];
  }

  -- fixed events stand, this one too
  fixed_stand : FixedStand net (with_floor live.given i time) (slice_set live.times i time) (slice_set live.fixed i true)
  fixed_stand e on = elim (cases_eq e i) [
    | inl here ↦ subst (Stands net (with_floor live.given i time) (slice_set live.times i time)) (sym here)
        (record { entered = entered; at_floor = time_here ∙ sym floor_here })
    | inr ne ↦
        let was = is.stand e (sym (flag_there live.fixed i e true ne) ∙ on) in
        record { entered = was.entered; at_floor = time_there e ne ∙ was.at_floor ∙ sym (get_or-set_other live.given.floors i e time 0 ne) }
  ]

  fixed_live : (marks : List Bool) → AreMarked (graph_given net (with_floor live.given i time)) marks (slice_set live.times i time) →
      (given : ConstraintsValue) (times : List ℕ) → given ≡ with_floor live.given i time → times ≡ slice_set live.times i time →
      IsLive net (record { given = given; order = order; times = times; marks = marks; fixed = fixed })
  fixed_live marks marked given times given_is times_are =
      subst (λ (g : ConstraintsValue). IsLive net (record { given = g; order = order; times = times; marks = marks; fixed = fixed })) (sym given_is)
      (subst (λ (ts : List ℕ). IsLive net (record { given = with_floor live.given i time; order = order; times = ts; marks = marks; fixed = fixed })) (sym times_are)
      (subst (λ (f : List Bool). IsLive net (record { given = with_floor live.given i time; order = order; times = slice_set live.times i time; marks = marks; fixed = f })) (sym fixed_is)
      (record {
        sized = record { held = is.sized.held; floors = length-set live.given.floors i time ∙ is.sized.floors; spans = is.sized.spans };
        ordered = ordered;
        as_many_fixed = length-set live.fixed i true ∙ is.as_many_fixed;
        in_order = λ a below. in_order a below;
        stand = fixed_stand;
        marked = marked;
      })))

  cleared_before : (e : ℕ) → e ≢ i → is_marked (slice_set live.marks i false) e ≡ false → is_marked live.marks e ≡ false
  cleared_before e ne clear = sym (get_or-set_other live.marks i e false false ne) ∙ clear

  pub fixed_stays : slice_index live.times i ≡ time → (marks : List Bool) → marks ≡ slice_set live.marks i false →
      (given : ConstraintsValue) (times : List ℕ) → given ≡ with_floor live.given i time → times ≡ slice_set live.times i time →
      IsLive net (record { given = given; order = order; times = times; marks = marks; fixed = fixed })
  fixed_stays same marks marks_are given times given_is times_are =
      fixed_live marks
      (fixed_marks marks (ap length marks_are ∙ length-set live.marks i false)
      (λ e ne clear. cleared_before e ne (ap (λ (ms : List Bool). is_marked ms e) (sym marks_are) ∙ clear))
      (λ a binds from clear. same))
      given times given_is times_are

  unmarked_before : (marks : List Bool) → MarksHeads (arcs_given net live.given) i (slice_set live.marks i false) marks →
      (e : ℕ) → e ≢ i → is_marked marks e ≡ false → is_marked live.marks e ≡ false
  unmarked_before marks heads e ne clear =
      elim (cases_Bool (is_marked (slice_set live.marks i false) e)) [
        | inl was ↦ let now_marked = heads.kept e was in absurd cc
        | inr free ↦ cleared_before e ne free
      ]

  pub fixed_moves : (marks : List Bool) → MarksHeads (arcs_given net live.given) i (slice_set live.marks i false) marks →
      (given : ConstraintsValue) (times : List ℕ) → given ≡ with_floor live.given i time → times ≡ slice_set live.times i time →
      IsLive net (record { given = given; order = order; times = times; marks = marks; fixed = fixed })
  fixed_moves marks heads given times given_is times_are =
      fixed_live marks
      (fixed_marks marks (heads.as_many ∙ length-set live.marks i false) (unmarked_before marks heads)
      (λ a binds from clear. let now_marked = heads.heads a binds from in absurd cc))
      given times given_is times_are
