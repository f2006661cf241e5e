-- From one graph to another: arcs, cycles, orders and timetables of one that are those of the other.
use Rattle.std.proofs.Common.{◌≡◌, ℕ, ◌<◌, List, [], ◌∷◌, length, ◌⊎◌, inl, inr, refl, sym, subst, ◌∙◌, arith}
use Rattle.std.proofs.lemmas.Bool.{cases_eq}
use Rattle.dm_graph.specs.Arcs.{Arcs, Binds, BindsIn, Chain, IsCycle, HasNoCycle}
use Rattle.dm_graph.specs.Graph.{Graph, Meets, IsLeast, total_span}

-- a chain whose arcs all bind in another graph is a chain there
pub chain_carries : (g h : Arcs) → ((a : ℕ) → Binds g a → BindsIn g h a) → (i : ℕ) (chain : List ℕ) (j : ℕ) → Chain g i chain j → Chain h i chain j
chain_carries g h each i [] j c = c
chain_carries g h each i (a ∷ rest) j c =
    let b = each a c.0 in
    (b.binds, sym b.same_tail ∙ c.1, subst (λ e. Chain h e rest j) b.same_head (chain_carries g h each (g.head a) rest j c.2))

cycle_at : (h : Arcs) (i : ℕ) (cycle : List ℕ) → 0 < length cycle → Chain h i cycle i → IsCycle h cycle
cycle_at h i [] some c = absurd (omega arith)
cycle_at h i (a ∷ rest) some c = (c.0, refl, subst (λ e. Chain h (h.head a) rest e) (sym c.1) c.2)

-- a cycle whose arcs all bind in another graph is a cycle there
pub cycle_carries : (g h : Arcs) → ((a : ℕ) → Binds g a → BindsIn g h a) → (cycle : List ℕ) → IsCycle g cycle → IsCycle h cycle
cycle_carries g h each [] c = c
cycle_carries g h each (a ∷ rest) c =
    cycle_at h (g.tail a) (a ∷ rest) (omega arith) (chain_carries g h each (g.tail a) (a ∷ rest) (g.tail a) c)

-- the arcs of a chain of no span bind in h, if each arc has a positive span or binds in h
still_chain : (g : Graph) (h : Arcs) → ((a : ℕ) → Binds g.shape a → (0 < g.span a) ⊎ BindsIn g.shape h a) →
    (i : ℕ) (chain : List ℕ) (j : ℕ) → total_span g chain ≡ 0 → Chain g.shape i chain j → Chain h i chain j
still_chain g h each i [] j none c = c
still_chain g h each i (a ∷ rest) j none c =
    elim (each a c.0) [
      | inl positive ↦ absurd (omega arith)
      | inr b ↦ (
        b.binds,
        sym b.same_tail ∙ c.1,
        subst (λ e. Chain h e rest j) b.same_head (still_chain g h each (g.shape.head a) rest j (omega arith) c.2),
      )
    ]

-- where each arc has a positive span or binds in arcs without a cycle, each cycle has a positive span
pub positive_beyond : (g : Graph) (h : Arcs) → ((a : ℕ) → Binds g.shape a → (0 < g.span a) ⊎ BindsIn g.shape h a) →
    HasNoCycle h → (cycle : List ℕ) → IsCycle g.shape cycle → 0 < total_span g cycle
positive_beyond g h each none [] c = absurd c
positive_beyond g h each none (a ∷ rest) c =
    elim (cases_eq (total_span g (a ∷ rest)) 0) [
      | inl still ↦
          absurd (none (a ∷ rest) (cycle_at h (g.shape.tail a) (a ∷ rest) (omega arith)
          (still_chain g h each (g.shape.tail a) (a ∷ rest) (g.shape.tail a) still c)))
      | inr more ↦ omega arith
    ]

-- times that agree at the events meet the same graphs
pub meets_same_times : (g : Graph) (x y : ℕ → ℕ) → ((e : ℕ) → e < g.shape.events → x e ≡ y e) → Meets g x → Meets g y
meets_same_times g x y same m = record {
  above = λ e lt. let s = same e lt in let f = m.above e lt in omega arith;
  along = λ a b.
      let t = same (g.shape.tail a) b.from_event in
      let h = same (g.shape.head a) b.to_event in
      let f = m.along a b in
      omega arith;
}

-- and one is least where the other is
pub least_same_times : (g : Graph) (x y : ℕ → ℕ) → ((e : ℕ) → e < g.shape.events → x e ≡ y e) → IsLeast g x → IsLeast g y
least_same_times g x y same l = record {
  meets = meets_same_times g x y same l.meets;
  earliest = λ z m e lt. let s = same e lt in let f = l.earliest z m e lt in omega arith;
}
