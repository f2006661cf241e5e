-- Where a timetable is least, every event has its time.
use Rattle.std.proofs.Common.{◌≡◌, ◌≢◌, ℕ, ◌+◌, ◌<◌, ◌≤◌, List, refl, ap, inl, inr, arith, slice_index, if◌then◌else◌, eq-eqb}
use Rattle.std.specs.Prelude.{◌==◌}
use Rattle.std.proofs.lemmas.Bool.{cases_eq, cases_lt, ne_eqb}
use Rattle.dm_graph.specs.Arcs.{Binds}
use Rattle.dm_graph.specs.Graph.{Graph, Meets, IsLeast, IsJoin}
use Rattle.dm_settle.specs.Settling.{AreLeast, IsSettled}

-- times with the one of an event set to another
with_time : (ℕ → ℕ) → ℕ → ℕ → ℕ → ℕ
with_time x e t i = if i == e then t else x i

with_time-at : (x : ℕ → ℕ) (e t i : ℕ) → i ≡ e → with_time x e t i ≡ t
unfolding with_time
with_time-at x e t i is = rw (eq-eqb i e is)

with_time-other : (x : ℕ → ℕ) (e t i : ℕ) → i ≢ e → with_time x e t i ≡ x i
unfolding with_time
with_time-other x e t i ne = rw (ne_eqb i e ne)

-- where an earlier time of an event suffices for its floor and the arcs into it, the timetable with it meets the graph
lowered_meets : (g : Graph) (x : ℕ → ℕ) → Meets g x → (e u : ℕ) → u ≤ x e → g.floor e ≤ u →
    ((a : ℕ) → Binds g.shape a → g.shape.head a ≡ e → x (g.shape.tail a) + g.span a ≤ u) → Meets g (with_time x e u)
lowered_meets g x m e u low floor each =
    record {
      above = λ f lt. elim (cases_eq f e) [
        | inl is ↦
            let here = with_time-at x e u f is in
            let same : g.floor f ≡ g.floor e = ap g.floor is in
            omega arith
        | inr ne ↦
            let there = with_time-other x e u f ne in
            let above = m.above f lt in
            omega arith
      ];
      along = λ a b.
          let tail : ℕ = g.shape.tail a in
          let head : ℕ = g.shape.head a in
          let along = m.along a b in
          let below : with_time x e u tail ≤ x tail =
          elim (cases_eq tail e) [
            | inl is ↦
                let here = with_time-at x e u tail is in
                let same : x tail ≡ x e = ap x is in
                omega arith
            | inr ne ↦ let there = with_time-other x e u tail ne in omega arith
          ] in
          elim (cases_eq head e) [
            | inl is ↦
                let here = with_time-at x e u head is in
                let into = each a b is in
                omega arith
            | inr ne ↦ let there = with_time-other x e u head ne in omega arith
          ];
    }

pub least_is_join : (g : Graph) (x : ℕ → ℕ) → IsLeast g x → (e : ℕ) → e < g.shape.events → IsJoin g x e (x e)
least_is_join g x least e lt =
    record {
      above = least.meets.above e lt;
      along = λ a b is.
          let along = least.meets.along a b in
          let same : x (g.shape.head a) ≡ x e = ap x is in
          omega arith;
      least = λ u floor each. elim (cases_lt u (x e)) [
        | inl lower ↦
            let first = least.earliest (with_time x e u) (lowered_meets g x least.meets e u (omega arith) floor each) e lt in
            let here = with_time-at x e u e refl in
            omega arith
        | inr enough ↦ enough
      ];
    }

-- in the least timetable every event has its time
pub least_is_settled : (g : Graph) (times : List ℕ) → AreLeast g times → (e : ℕ) → e < g.shape.events → IsSettled g times e
least_is_settled g times least e lt = least_is_join g (slice_index times) least.least e lt
