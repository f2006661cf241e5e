-- A sweep goes on: what a place leaves, the next one needs, and at the end every event has its time.
use Rattle.std.proofs.Common.{◌≡◌, ◌≢◌, ℕ, ◌+◌, ◌<◌, Bool, true, false, List, length, sym, ap, subst, ◌∙◌, ◌⊎◌, inl, inr, arith, slice_index, length-set, get_or-set_same, get_or-set_other}
use Rattle.std.specs.Prelude.{slice_set}
use Rattle.std.proofs.lemmas.Bool.{cases_Bool, cases_lt, cases_eq}
use Rattle.dm_graph.specs.Arcs.{Binds}
use Rattle.dm_graph.specs.Arrays.{AreRanks}
use Rattle.dm_graph.specs.Graph.{Graph, IsJoin}
use Rattle.dm_graph.proofs.Joins.{IsJoin-congr, joins_are_least}
use Rattle.dm_marks.specs.Marked.{is_marked, IsFirstFrom, NoneFrom}
use Rattle.dm_settle.specs.Settling.{AreLeast, IsSettled, MayMove, GoesForward, State}
use Rattle.dm_settle.specs.Inside.Sweep.{IsSweeping, MarksHeads, Stays, Moves, pulls, pulling}
use Rattle.dm_settle.proofs.Pulling.{pulls_too, binds_still, late_unless, late_stays}
use Rattle.dm_settle.proofs.Early.{moving_rank, moving_rank-rises}

pub one_of_rank : (events : ℕ) (order ranks : List ℕ) → AreRanks events order ranks → (e f : ℕ) → e < events → f < events →
    slice_index ranks e ≡ slice_index ranks f → e ≡ f
one_of_rank events order ranks ranked e f in' in'' same =
    sym (ranked.stands_there e in') ∙ ap (slice_index order) same ∙ ranked.stands_there f in''

-- once a mark is taken away, a place that is marked is another one that was, and one that is not is that place or was not
pub marked_else : (marks : List Bool) (place k : ℕ) → place < length marks → is_marked (slice_set marks place false) k ≡ true →
    (k ≢ place) × (is_marked marks k ≡ true)
marked_else marks place k below now =
    elim (cases_eq k place) [
      | inl is ↦
          let gone : is_marked (slice_set marks place false) k ≡ false =
          subst (λ (j : ℕ). is_marked (slice_set marks place false) j ≡ false) (sym is) (get_or-set_same marks place false false below) in
          absurd cc
      | inr ne ↦ (ne, sym (get_or-set_other marks place k false false ne) ∙ now)
    ]

pub clear_else : (marks : List Bool) (place k : ℕ) → is_marked (slice_set marks place false) k ≡ false → (k ≡ place) ⊎ (is_marked marks k ≡ false)
clear_else marks place k now =
    elim (cases_eq k place) [
      | inl is ↦ inl is
      | inr ne ↦ inr (sym (get_or-set_other marks place k false false ne) ∙ now)
    ]

-- from the first mark on, none stands before it
pub sweeping_at : (g : Graph) (ranks : List ℕ) (marks0 marks : List Bool) (times : List ℕ) (from place : ℕ) →
    IsSweeping g ranks marks0 marks times from → IsFirstFrom marks from place → IsSweeping g ranks marks0 marks times place
sweeping_at g ranks marks0 marks times from place sweeping first =
    record {
      unsettled = sweeping.unsettled;
      later = λ k marked. elim (cases_lt k place) [
        | inl before ↦
            let gone = first.none_between k (sweeping.later k marked) before in
            absurd cc
        | inr past ↦ past
      ];
      may_move = sweeping.may_move;
    }

module _ (g : Graph) (order ranks : List ℕ) (ranked : AreRanks g.shape.events order ranks) (marks0 : List Bool)
    (forward : GoesForward g.shape ranks marks0) where
  one : (e f : ℕ) → e < g.shape.events → f < g.shape.events → slice_index ranks e ≡ slice_index ranks f → e ≡ f
  one = one_of_rank g.shape.events order ranks ranked

  module _ (marks : List Bool) (times : List ℕ) (e : ℕ) (is_event : e < g.shape.events)
      (sweeping : IsSweeping g ranks marks0 marks times (slice_index ranks e)) (marked : is_marked marks (slice_index ranks e) ≡ true) where
    within : slice_index ranks e < length marks
    within = let p = ranked.has_place e is_event in let m = sweeping.unsettled.as_many_marks in omega arith

    pub stays_on : (steps : ℕ) (after : State) → Stays g ranks e (record { marks = marks; times = times; steps = steps }) after →
        IsSweeping g ranks marks0 after.marks after.times (slice_index ranks e + 1)
    stays_on steps after s =
        let place : ℕ = slice_index ranks e in
        let cleared : IsSweeping g ranks marks0 (slice_set marks place false) times (place + 1) =
        record {
          unsettled = record {
            as_many_marks = length-set marks place false ∙ sweeping.unsettled.as_many_marks;
            as_many_times = sweeping.unsettled.as_many_times;
            settled = λ f lt now. elim (clear_else marks place (slice_index ranks f) now) [
              | inl is ↦ subst (IsSettled g times) (one e f is_event lt (sym is)) s.settled
              | inr was ↦ sweeping.unsettled.settled f lt was
            ];
          };
          later = λ k now.
              let was_else = marked_else marks place k within now in
              let later = sweeping.later k was_else.1 in
              let other = was_else.0 in
              omega arith;
          may_move = λ f lt now. sweeping.may_move f lt (marked_else marks place (slice_index ranks f) within now).1;
        } in
        subst (λ (ms : List Bool). IsSweeping g ranks marks0 ms after.times (place + 1)) (sym s.marks)
        (subst (λ (ts : List ℕ). IsSweeping g ranks marks0 (slice_set marks place false) ts (place + 1)) (sym s.times) cleared)

    -- the tail of an arc that binds into the event is another event
    tail_is_other : (a : ℕ) → Binds g.shape a → g.shape.head a ≡ e → g.shape.tail a ≢ e
    tail_is_other a binds head tail =
        let may = sweeping.may_move e is_event marked in
        let up = forward a binds (subst (λ (f : ℕ). MayMove g.shape ranks marks0 f) (sym tail) may) in
        let low : slice_index ranks (g.shape.tail a) ≡ slice_index ranks e = ap (slice_index ranks) tail in
        let high : slice_index ranks (g.shape.head a) ≡ slice_index ranks e = ap (slice_index ranks) head in
        omega arith

    module _ (marks1 : List Bool) (time : ℕ) (join : IsJoin g (slice_index times) e time)
        (heads : MarksHeads (pulling g times e time) (slice_index ranks) e (slice_set marks (slice_index ranks e) false) marks1) where
      at_event : slice_index (slice_set times e time) e ≡ time
      at_event = get_or-set_same times e time 0 (let t = sweeping.unsettled.as_many_times in omega arith)

      elsewhere : (f : ℕ) → f ≢ e → slice_index (slice_set times e time) f ≡ slice_index times f
      elsewhere f ne = get_or-set_other times e f time 0 ne

      settled_here : IsSettled g (slice_set times e time) e
      settled_here =
          subst (λ (t : ℕ). IsJoin g (slice_index (slice_set times e time)) e t) (sym at_event)
          (IsJoin-congr g (slice_index times) (slice_index (slice_set times e time)) e time
          (λ a b head. sym (elsewhere (g.shape.tail a) (tail_is_other a b head)))
          join)

      settled_there : (f : ℕ) → f < g.shape.events → f ≢ e → is_marked marks1 (slice_index ranks f) ≡ false → IsSettled g (slice_set times e time) f
      settled_there f lt ne clear =
          let was : is_marked marks (slice_index ranks f) ≡ false =
          elim (cases_Bool (is_marked (slice_set marks (slice_index ranks e) false) (slice_index ranks f))) [
            | inl now ↦ let still = heads.kept (slice_index ranks f) now in absurd cc
            | inr gone ↦ elim (clear_else marks (slice_index ranks e) (slice_index ranks f) gone) [
              | inl is ↦ absurd (ne (one f e lt is_event is))
              | inr not ↦ not
            ]
          ] in
          subst (λ (t : ℕ). IsJoin g (slice_index (slice_set times e time)) f t) (sym (elsewhere f ne))
          (late_stays g (slice_index times) (slice_index (slice_set times e time)) f (sweeping.unsettled.settled f lt was)
          (λ a b head. elim (cases_eq (g.shape.tail a) e) [
            | inr other ↦ inl (sym (elsewhere (g.shape.tail a) other))
            | inl tail ↦ elim (cases_Bool (pulls g times e time a)) [
              | inl pulled ↦
                  let now = heads.heads a (pulls_too g times e time a b pulled) tail in
                  let same : slice_index ranks (g.shape.head a) ≡ slice_index ranks f = ap (slice_index ranks) head in
                  let here : is_marked marks1 (slice_index ranks f) ≡ true = subst (λ (k : ℕ). is_marked marks1 k ≡ true) same now in
                  absurd cc
              | inr late ↦
                  let above = late_unless g times e time a b late in
                  let same : slice_index times (g.shape.head a) ≡ slice_index times f = ap (slice_index times) head in
                  let was_then : slice_index times (g.shape.tail a) ≡ slice_index times e = ap (slice_index times) tail in
                  let is_then : slice_index (slice_set times e time) (g.shape.tail a) ≡ time = ap (slice_index (slice_set times e time)) tail ∙ at_event in
                  inr (omega (arith, above.0, same, was_then), omega (arith, above.1, same, is_then))
            ]
          ]))

      moved_on : IsSweeping g ranks marks0 marks1 (slice_set times e time) (slice_index ranks e + 1)
      moved_on = record {
        unsettled = record {
          as_many_marks = heads.as_many ∙ length-set marks (slice_index ranks e) false ∙ sweeping.unsettled.as_many_marks;
          as_many_times = length-set times e time ∙ sweeping.unsettled.as_many_times;
          settled = λ f lt clear. elim (cases_eq f e) [
            | inl is ↦ subst (IsSettled g (slice_set times e time)) (sym is) settled_here
            | inr ne ↦ settled_there f lt ne clear
          ];
        };
        later = λ k now. elim (heads.only k now) [
          | inl was ↦
              let was_else = marked_else marks (slice_index ranks e) k within was in
              let later = sweeping.later k was_else.1 in
              let other = was_else.0 in
              omega arith
          | inr leads ↦
              let may = sweeping.may_move e is_event marked in
              let up = forward leads.arc (binds_still g times e time leads.arc leads.binds) (subst (λ (f : ℕ). MayMove g.shape ranks marks0 f) (sym leads.leaves) may) in
              let low : slice_index ranks (g.shape.tail leads.arc) ≡ slice_index ranks e = ap (slice_index ranks) leads.leaves in
              let high = leads.there in
              omega arith
        ];
        may_move = λ f lt now. elim (heads.only (slice_index ranks f) now) [
          | inl was ↦ sweeping.may_move f lt (marked_else marks (slice_index ranks e) (slice_index ranks f) within was).1
          | inr leads ↦ inr (record {
            arc = leads.arc;
            binds = binds_still g times e time leads.arc leads.binds;
            enters = one (g.shape.head leads.arc) f leads.binds.to_event lt leads.there;
          })
        ];
      }

    pub moves_on : (steps : ℕ) (after : State) → Moves g ranks e (record { marks = marks; times = times; steps = steps }) after →
        IsSweeping g ranks marks0 after.marks after.times (slice_index ranks e + 1)
    moves_on steps after m =
        subst (λ (ts : List ℕ). IsSweeping g ranks marks0 after.marks ts (slice_index ranks e + 1)) (sym m.times) (moved_on after.marks m.time m.join m.marks)

  -- where no mark is left, every event has its time
  pub all_settled : (marks : List Bool) (times : List ℕ) (from : ℕ) → IsSweeping g ranks marks0 marks times from → NoneFrom marks from →
      (e : ℕ) → e < g.shape.events → IsSettled g times e
  all_settled marks times from sweeping none e lt =
      elim (cases_Bool (is_marked marks (slice_index ranks e))) [
        | inl marked ↦
            let clear = none (slice_index ranks e) (sweeping.later (slice_index ranks e) marked) in
            absurd cc
        | inr clear ↦ sweeping.unsettled.settled e lt clear
      ]

  pub settled_is_least : (times : List ℕ) → length times ≡ g.shape.events → ((e : ℕ) → e < g.shape.events → IsSettled g times e) → AreLeast g times
  settled_is_least times as_many settled =
      record {
        as_many = as_many;
        least = joins_are_least g (moving_rank g.shape ranks marks0) (slice_index times) (moving_rank-rises g.shape ranks marks0 forward) settled;
      }
