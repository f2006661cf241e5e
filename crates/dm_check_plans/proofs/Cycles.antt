-- Arcs have a cycle, or have none: one of the two can be shown.
use Rattle.std.proofs.Common.{◌≡◌, ℕ, zero, suc, ◌<◌, Bool, true, false, List, [], ◌∷◌, length, ◌⊎◌, inl, inr, eqb, refl, sym, ap, subst, arith, eqb-true, eq-eqb, ltb-true, lt-ltb}
use Rattle.std.specs.Prelude.{◌&&◌, ◌==◌, nat_lt}
use Rattle.std.specs.List.{list_any, range_with_len, IsDistinct}
use Rattle.std.proofs.lemmas.Bool.{cases_Bool, and_parts, and_from, both_ways}
use Rattle.std.proofs.lemmas.Map.Keys.{IsDistinct-cons}
use Rattle.std.proofs.lemmas.Map.Steps.{length-le_from_distinct_below}
use Rattle.dm_graph.specs.Arcs.{Arcs, Binds, Chain, IsCycle, HasNoCycle}
use Rattle.dm_paths.proofs.Agreeing.{passes_one}
use Rattle.dm_paths.proofs.Paths.{one_passes}
use Rattle.dm_paths.proofs.Violating.{in_range, range_below}
use Rattle.dm_graph.proofs.Chains.{passed, length-passed, passed_is_event, front, none_is}

pub record SomeCycle (g : Arcs) : Type 0 where
  pub cycle : List ℕ
  pub is_cycle : IsCycle g cycle

-- ---- the events on a chain

-- a chain that comes to an event twice closes a cycle
cycle_or_once : (g : Arcs) (i : ℕ) (chain : List ℕ) (j : ℕ) → Chain g i chain j → SomeCycle g ⊎ IsDistinct eqb (passed g i chain)
unfolding passed IsDistinct
cycle_or_once g i [] j h = inr (IsDistinct-cons eqb i [] tt tt)
cycle_or_once g i (a ∷ rest) j h =
    elim (cases_Bool (list_any (eqb i) (passed g (g.head a) rest))) [
      | inl again ↦
          let f = front g (g.head a) rest j h.2 i again in
          let back : Chain g (g.head a) f.0 (g.tail a) = subst (λ k. Chain g (g.head a) f.0 k) (sym h.1) f.1 in
          inl (record { cycle = a ∷ f.0; is_cycle = (h.0, refl, back) })
      | inr once ↦ elim (cycle_or_once g (g.head a) rest j h.2) [
        | inl cycle ↦ inl cycle
        | inr later ↦ inr (IsDistinct-cons eqb i (passed g (g.head a) rest) (none_is i (passed g (g.head a) rest) once) later)
      ]
    ]

-- ---- how far chains go

leaves_by : Arcs → ℕ → ℕ → Bool
leaves_by g i a = g.held a && (nat_lt (g.tail a) g.events && (nat_lt (g.head a) g.events && (g.tail a == i)))

-- some chain of so many arcs leaves the event
unfoldable goes_far : Arcs → ℕ → ℕ → Bool
goes_far g zero i = true
goes_far g (suc k) i = list_any (λ a. leaves_by g i a && goes_far g k (g.head a)) (range_with_len 0 g.arcs)

record FarChain (g : Arcs) (k i : ℕ) : Type 0 where
  chain : List ℕ
  last : ℕ
  leads : Chain g i chain last
  long : length chain ≡ k

far_chain : (g : Arcs) (k i : ℕ) → goes_far g k i ≡ true → FarChain g k i
unfolding goes_far leaves_by
far_chain g zero i h = record { chain = []; last = i; leads = refl; long = refl }
far_chain g (suc k) i h =
    let one = passes_one (λ a. leaves_by g i a && goes_far g k (g.head a)) (range_with_len 0 g.arcs) h in
    let a : ℕ = one.0 in
    let both = and_parts (leaves_by g i a) (goes_far g k (g.head a)) one.2 in
    let p = and_parts (g.held a) _ both.0 in
    let q = and_parts (nat_lt (g.tail a) g.events) _ p.1 in
    let r = and_parts (nat_lt (g.head a) g.events) _ q.1 in
    let binds : Binds g a =
    record { is_arc = range_below g.arcs a one.1; is_held = p.0; from_event = ltb-true (g.tail a) g.events q.0; to_event = ltb-true (g.head a) g.events r.0 } in
    let rest = far_chain g k (g.head a) both.1 in
    record {
      chain = a ∷ rest.chain;
      last = rest.last;
      leads = (binds, eqb-true (g.tail a) i r.1, rest.leads);
      long = ap suc rest.long;
    }

one_further : (g : Arcs) (k j a : ℕ) → Binds g a × (g.tail a ≡ j) → goes_far g k (g.head a) ≡ true → goes_far g (suc k) j ≡ true
unfolding goes_far leaves_by
one_further g k j a s far =
    one_passes (λ b. leaves_by g j b && goes_far g k (g.head b)) (range_with_len 0 g.arcs) a (in_range g.arcs a s.0.is_arc)
    (and_from (leaves_by g j a) (goes_far g k (g.head a))
    (and_from (g.held a) _ s.0.is_held
    (and_from (nat_lt (g.tail a) g.events) _ (lt-ltb (g.tail a) g.events s.0.from_event)
    (and_from (nat_lt (g.head a) g.events) _ (lt-ltb (g.head a) g.events s.0.to_event) (eq-eqb (g.tail a) j s.1))))
    far)

-- along a cycle chains go as far as one likes
forever : (g : Arcs) (i c : ℕ) (rest : List ℕ) → Chain g i (c ∷ rest) i → (k j : ℕ) (chain : List ℕ) → Chain g j chain i → goes_far g k j ≡ true
unfolding goes_far
forever g i c rest cycle zero j chain h = refl
forever g i c rest cycle (suc k) j [] h =
    subst (λ e. goes_far g (suc k) e ≡ true) (sym h) (one_further g k i c (cycle.0, cycle.1) (forever g i c rest cycle k (g.head c) rest cycle.2))
forever g i c rest cycle (suc k) j (a ∷ later) s = one_further g k j a (s.0, s.1) (forever g i c rest cycle k (g.head a) later s.2)

pub cycle_or_none : (g : Arcs) → SomeCycle g ⊎ HasNoCycle g
cycle_or_none g =
    elim (cases_Bool (list_any (goes_far g g.events) (range_with_len 0 g.events))) [
      | inl some ↦
          let one = passes_one (goes_far g g.events) (range_with_len 0 g.events) some in
          let i : ℕ = one.0 in
          let below : i < g.events = range_below g.events i one.1 in
          let far = far_chain g g.events i one.2 in
          elim (cycle_or_once g i far.chain far.last far.leads) [
            | inl cycle ↦ inl cycle
            | inr once ↦
                let n = length-le_from_distinct_below (passed g i far.chain) g.events once (passed_is_event g i far.chain far.last below far.leads) in
                let m = length-passed g i far.chain in
                let l = far.long in
                absurd (omega arith)
          ]
      | inr none ↦ inr (no_cycle none)
    ]
  where
    no_cycle : list_any (goes_far g g.events) (range_with_len 0 g.events) ≡ false → HasNoCycle g
    no_cycle none [] c = c
    no_cycle none (a ∷ rest) c =
        both_ways (list_any (goes_far g g.events) (range_with_len 0 g.events)) none
        (one_passes (goes_far g g.events) (range_with_len 0 g.events) (g.tail a) (in_range g.events (g.tail a) c.0.from_event)
        (forever g (g.tail a) a rest c g.events (g.tail a) [] refl))
