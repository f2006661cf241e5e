-- Rounds, one after the other.
use Rattle.std.proofs.Common.{◌≡◌, ℕ, suc, ◌+◌, ◌<◌, ◌≤◌, Bool, false, List, subst, refl, inl, inr, arith, slice_index}
use Rattle.std.proofs.lemmas.Bool.{cases_lt}
use Rattle.dm_graph.specs.Arcs.{HasNoCycle}
use Rattle.dm_graph.specs.Graph.{Graph, IsLeast}
use Rattle.dm_graph.proofs.Rounds.{round, round_is_below, least_from_rounds}
use Rattle.dm_check_times.specs.Binding.{IsEarly, is_due, MayBegin}
use Rattle.dm_check_times.specs.Inside.Rising.{HasSwept}
use Rattle.dm_marks.specs.Marked.{HasMark}

-- So many rounds have been made. One more than there are events come only where there is a cycle.
pub record HaveRounds (g : Graph) (rounds : ℕ) (times : List ℕ) (due : List Bool) : Type 0 where
  pub begins : MayBegin g times due
  pub late : (e : ℕ) → e < g.shape.events → round g rounds e ≤ slice_index times e
  pub cyclic : g.shape.events < rounds → HasNoCycle g.shape → ⊥

floor_round : (g : Graph) (e : ℕ) → round g 0 e ≡ g.floor e
unfolding round
floor_round g e = refl

pub no_rounds : (g : Graph) (times : List ℕ) (due : List Bool) → MayBegin g times due → HaveRounds g 0 times due
no_rounds g times due begins = record {
  begins = begins;
  late = λ e lt. let f = floor_round g e in let a = begins.above e lt in omega arith;
  cyclic = λ past. absurd (omega arith);
}

module _ (g : Graph) (rounds : ℕ) (old new : List ℕ) (before after : List Bool) (had : HaveRounds g rounds old before)
    (swept : HasSwept g g.shape.events old new after) where
  early : IsEarly g (slice_index new)
  early = swept.early had.begins.early

  above : (e : ℕ) → e < g.shape.events → g.floor e ≤ slice_index new e
  above e lt = let a = had.begins.above e lt in let r = swept.no_fall e in omega arith

  pub settled : ((e : ℕ) → is_due after e ≡ false) → IsLeast g (slice_index new)
  settled none = record {
    meets = record { above = above; along = λ a binds. swept.met a binds (none (g.shape.tail a)) };
    earliest = early;
  }

  still : HasMark after g.shape.events → g.shape.events ≤ rounds → HasNoCycle g.shape → ⊥
  still some all none =
      elim (cases_lt g.shape.events rounds) [
        | inl past ↦ had.cyclic past none
        | inr now ↦
            let is : rounds ≡ g.shape.events = omega arith in
            let late : (e : ℕ) → e < g.shape.events → round g g.shape.events e ≤ slice_index old e =
            subst (λ (k : ℕ). (e : ℕ) → e < g.shape.events → round g k e ≤ slice_index old e) is had.late in
            let least : IsLeast g (slice_index old) = least_from_rounds g none (slice_index old) late had.begins.early in
            let rose = swept.cause some.place some.below some.marked in
            let e = early (slice_index old) least.meets some.place some.below in
            omega arith
      ]

  next : suc rounds ≡ rounds + 1
  next = omega arith

  pub one_more : HasMark after g.shape.events → HaveRounds g (rounds + 1) new after
  one_more some = record {
    begins = record { above = above; early = early; met = swept.met };
    late = λ e lt. subst (λ (k : ℕ). round g k e ≤ slice_index new e) next
        (round_is_below g rounds (slice_index old) (slice_index new) had.late above (λ a binds. swept.along a binds binds.from_event) e lt);
    cyclic = λ past none. still some (omega arith) none;
  }
