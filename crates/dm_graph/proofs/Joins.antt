-- Times along an order: where each is the join over the others, they are least, and no later than the ranks allow.
use Rattle.std.proofs.Common.{◌≡◌, ℕ, zero, suc, ◌<◌, ◌≤◌, refl, ap, arith}
use Rattle.dm_graph.specs.Arcs.{Binds}
use Rattle.dm_graph.specs.Graph.{Graph, Meets, IsLeast, IsJoin}
use Rattle.dm_graph.proofs.Chains.{Rises}

-- the join at an event depends on the times of the tails alone
pub IsJoin-congr : (g : Graph) (x y : ℕ → ℕ) (e time : ℕ) →
    ((a : ℕ) → Binds g.shape a → g.shape.head a ≡ e → x (g.shape.tail a) ≡ y (g.shape.tail a)) →
    IsJoin g x e time → IsJoin g y e time
IsJoin-congr g x y e time same j = record {
  above = j.above;
  along = λ a b is. let s = same a b is in let h = j.along a b is in omega arith;
  least = λ u f each. j.least u f (λ a b is. let s = same a b is in let h = each a b is in omega arith);
}

module _ (g : Graph) (rank x : ℕ → ℕ) (up : Rises g.shape rank)
    (joins : (e : ℕ) → e < g.shape.events → IsJoin g x e (x e)) where
  early : (y : ℕ → ℕ) → Meets g y → (n e : ℕ) → rank e < n → e < g.shape.events → x e ≤ y e
  early y m zero e below lt = absurd (omega arith)
  early y m (suc n) e below lt =
      (joins e lt).least (y e) (m.above e lt)
      (λ a b is.
      let rises = up a b in
      let same_rank : rank (g.shape.head a) ≡ rank e = ap rank is in
      let same : y (g.shape.head a) ≡ y e = ap y is in
      let tail = early y m n (g.shape.tail a) (omega arith) b.from_event in
      let here = m.along a b in
      omega arith)

  -- where each time is the join, and a rank rises along each arc that binds, the times are least
  pub joins_are_least : IsLeast g x
  joins_are_least = record {
    meets = record {
      above = λ e lt. (joins e lt).above;
      along = λ a b. (joins (g.shape.head a) b.to_event).along a b refl;
    };
    earliest = λ y m e lt. early y m (suc (rank e)) e (omega arith) lt;
  }
