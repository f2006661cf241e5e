-- Timetables that meet a graph, and the least among them.
use Rattle.std.proofs.Common.{◌≡◌, ℕ, ◌+◌, ◌<◌, ◌≤◌, List, [], ◌∷◌, ap, arith}
use Rattle.dm_graph.specs.Arcs.{Chain, IsCycle}
use Rattle.dm_graph.specs.Graph.{Graph, Meets, IsLeast, HasPositiveCycles, total_span, AsksNoMore}

-- a timetable that meets a graph gives a chain of arcs at least its span
pub span_of_chain : (g : Graph) (x : ℕ → ℕ) → Meets g x → (i : ℕ) (chain : List ℕ) (j : ℕ) →
    Chain g.shape i chain j → x i + total_span g chain ≤ x j
span_of_chain g x m i [] j h = let e : x i ≡ x j = ap x h in omega arith
span_of_chain g x m i (a ∷ rest) j h =
    let e : x (g.shape.tail a) ≡ x i = ap x h.1 in
    let one = m.along a h.0 in
    let more = span_of_chain g x m (g.shape.head a) rest j h.2 in
    omega arith

-- a graph that is met has no cycle of a positive span
pub met_has_no_cycle : (g : Graph) (x : ℕ → ℕ) → HasPositiveCycles g → Meets g x → (cycle : List ℕ) → IsCycle g.shape cycle → ⊥
met_has_no_cycle g x positive m [] h = h
met_has_no_cycle g x positive m (a ∷ rest) h =
    let least = positive (a ∷ rest) h in
    let most = span_of_chain g x m (g.shape.tail a) (a ∷ rest) (g.shape.tail a) h in
    omega arith

-- what meets a graph meets one that asks no more
pub meets_less : (less more : Graph) → AsksNoMore less more → (x : ℕ → ℕ) → Meets more x → Meets less x
meets_less less more r x m = record {
  above = λ e lt. let f = r.floors e lt in let s = r.same_events in let h : more.floor e ≤ x e = m.above e (omega arith) in omega arith;
  along = λ a b.
      let t : x (less.shape.tail a) ≡ x (more.shape.tail a) = ap x (r.binds a b).same_tail in
      let h : x (less.shape.head a) ≡ x (more.shape.head a) = ap x (r.binds a b).same_head in
      let s = r.spans a b in
      let m = m.along a (r.binds a b).binds in
      omega arith;
}

-- the least timetable of a graph that asks no more is no later than what meets the other
pub less_is_no_later : (less more : Graph) → AsksNoMore less more → (x y : ℕ → ℕ) → IsLeast less x → Meets more y →
    (e : ℕ) → e < more.shape.events → x e ≤ y e
less_is_no_later less more r x y l m e lt =
    let s = r.same_events in l.earliest y (meets_less less more r y m) e (omega arith)

-- what is least for a graph that asks no more, and meets the other, is least for the other
pub least_for_more : (less more : Graph) → AsksNoMore less more → (x : ℕ → ℕ) → IsLeast less x → Meets more x → IsLeast more x
least_for_more less more r x l m = record {
  meets = m;
  earliest = λ y my. less_is_no_later less more r x y l my;
}

-- graphs that ask the same have the same least timetable
pub same_is_least_alike : (g h : Graph) (x : ℕ → ℕ) → AsksNoMore g h → AsksNoMore h g → IsLeast g x → IsLeast h x
same_is_least_alike g h x more less l = least_for_more g h more x l (meets_less h g less x l.meets)
