-- Chains of arcs: ranks rise along them, and where there is no cycle they pass each event at most once.
use Rattle.std.proofs.Common.{◌≡◌, ℕ, zero, suc, ◌<◌, ◌≤◌, true, false, cond, List, [], ◌∷◌, length, eqb, refl, sym, ap, subst, inl, inr, arith, eqb-true, eq-eqb, Some, slice_get, slice_index_or}
use Rattle.std.specs.List.{IsDistinct, AllByRecursion, list_any, Contains}
use Rattle.std.proofs.lemmas.Bool.{cases_Bool, or_cases, or_parts}
use Rattle.std.proofs.lemmas.Map.Keys.{IsDistinct-cons}
use Rattle.std.proofs.lemmas.Map.Steps.{length-le_from_distinct_below}
use Rattle.dm_graph.specs.Arcs.{Arcs, Binds, Chain, IsCycle, HasNoCycle, IsOrder}

-- the rank rises along each arc that binds
abbrev pub Rises : Arcs → (ℕ → ℕ) → Type 0
Rises g rank = (a : ℕ) → Binds g a → rank (g.tail a) < rank (g.head a)

pub chain_rises : (g : Arcs) (rank : ℕ → ℕ) → Rises g rank → (i : ℕ) (chain : List ℕ) (j : ℕ) → Chain g i chain j → rank i ≤ rank j
chain_rises g rank up i [] j h = let e : rank i ≡ rank j = ap rank h in omega arith
chain_rises g rank up i (a ∷ rest) j h =
    let e : rank (g.tail a) ≡ rank i = ap rank h.1 in
    let one = up a h.0 in
    let more = chain_rises g rank up (g.head a) rest j h.2 in
    omega arith

-- where a rank rises along each arc that binds, there is no cycle
pub no_cycle_where_rank_rises : (g : Arcs) (rank : ℕ → ℕ) → Rises g rank → (cycle : List ℕ) → IsCycle g cycle → ⊥
no_cycle_where_rank_rises g rank up [] h = h
no_cycle_where_rank_rises g rank up (a ∷ rest) h =
    let one = up a h.0 in
    let more = chain_rises g rank up (g.head a) rest (g.tail a) h.2 in
    omega arith

-- the first place of an event in a list
unfoldable pub place_in : List ℕ → ℕ → ℕ
place_in [] e = 0
place_in (x ∷ xs) e = cond (eqb x e) 0 (suc (place_in xs e))

place_in-at : (xs : List ℕ) (e k : ℕ) → k < length xs → slice_index_or xs k e ≡ e → slice_get xs (place_in xs e) ≡ Some e
unfolding place_in
place_in-at [] e k lt is = absurd (omega arith)
place_in-at (x ∷ xs) e zero lt is = rw (eq-eqb x e is) (ap Some is)
place_in-at (x ∷ xs) e (suc k) lt is =
    elim (cases_Bool (eqb x e)) [
      | inl same ↦ rw same (ap Some (eqb-true x e same))
      | inr other ↦ rw other (place_in-at xs e k (omega arith) is)
    ]

-- an event of the list stands at its first place
pub place_in-found : (xs : List ℕ) (e : ℕ) → Contains xs e → slice_get xs (place_in xs e) ≡ Some e
place_in-found xs e h = place_in-at xs e h.0 h.1 h.2

-- places in an order rise along each arc that binds
pub order_rises : (g : Arcs) (order : List ℕ) → IsOrder g order → Rises g (place_in order)
order_rises g order is a binds =
    is.forward a binds (place_in order (g.tail a)) (place_in order (g.head a))
    (place_in-found order (g.tail a) (is.has_each (g.tail a) binds.from_event))
    (place_in-found order (g.head a) (is.has_each (g.head a) binds.to_event))

-- the events that a chain passes, its first and its last among them
unfoldable pub passed : Arcs → ℕ → List ℕ → List ℕ
passed g i [] = i ∷ []
passed g i (a ∷ rest) = i ∷ passed g (g.head a) rest

pub length-passed : (g : Arcs) (i : ℕ) (chain : List ℕ) → length (passed g i chain) ≡ suc (length chain)
unfolding passed
length-passed g i [] = refl
length-passed g i (a ∷ rest) = ap suc (length-passed g (g.head a) rest)

pub passed_is_event : (g : Arcs) (i : ℕ) (chain : List ℕ) (j : ℕ) → i < g.events → Chain g i chain j →
    (q : ℕ) → list_any (eqb q) (passed g i chain) ≡ true → q < g.events
unfolding passed
passed_is_event g i [] j lt h q is =
    elim (or_cases (eqb q i) false is) [
      | inl same ↦ let e = eqb-true q i same in omega arith
      | inr other ↦ cc
    ]
passed_is_event g i (a ∷ rest) j lt h q is =
    elim (or_cases (eqb q i) (list_any (eqb q) (passed g (g.head a) rest)) is) [
      | inl same ↦ let e = eqb-true q i same in omega arith
      | inr later ↦ passed_is_event g (g.head a) rest j h.0.to_event h.2 q later
    ]

-- to each event that a chain passes leads a chain from its first
pub front : (g : Arcs) (i : ℕ) (chain : List ℕ) (j : ℕ) → Chain g i chain j →
    (q : ℕ) → list_any (eqb q) (passed g i chain) ≡ true → (part : List ℕ) × Chain g i part q
unfolding passed
front g i [] j h q is =
    elim (or_cases (eqb q i) false is) [
      | inl same ↦ ([], sym (eqb-true q i same))
      | inr other ↦ cc
    ]
front g i (a ∷ rest) j h q is =
    elim (or_cases (eqb q i) (list_any (eqb q) (passed g (g.head a) rest)) is) [
      | inl same ↦ ([], sym (eqb-true q i same))
      | inr later ↦ let f = front g (g.head a) rest j h.2 q later in (a ∷ f.0, (h.0, h.1, f.1))
    ]

pub none_is : (q : ℕ) (xs : List ℕ) → list_any (eqb q) xs ≡ false → AllByRecursion (λ y. eqb q y ≡ false) xs
none_is q [] h = tt
none_is q (x ∷ xs) h =
    let parts = or_parts (eqb q x) (list_any (eqb q) xs) h in
    (parts.0, none_is q xs parts.1)

-- where there is no cycle, a chain passes no event twice
passed_once : (g : Arcs) → HasNoCycle g → (i : ℕ) (chain : List ℕ) (j : ℕ) → Chain g i chain j → IsDistinct eqb (passed g i chain)
unfolding passed IsDistinct
passed_once g none i [] j h = IsDistinct-cons eqb i [] tt tt
passed_once g none i (a ∷ rest) j h =
    elim (cases_Bool (list_any (eqb i) (passed g (g.head a) rest))) [
      | inl again ↦
          let f = front g (g.head a) rest j h.2 i again in
          let back : Chain g (g.head a) f.0 (g.tail a) = subst (λ k. Chain g (g.head a) f.0 k) (sym h.1) f.1 in
          absurd (none (a ∷ f.0) (h.0, refl, back))
      | inr once ↦ IsDistinct-cons eqb i (passed g (g.head a) rest) (none_is i (passed g (g.head a) rest) once) (passed_once g none (g.head a) rest j h.2)
    ]

-- where there is no cycle, a chain has fewer arcs than there are events
pub chain_is_short : (g : Arcs) → HasNoCycle g → (i : ℕ) (chain : List ℕ) (j : ℕ) → i < g.events → Chain g i chain j → length chain < g.events
chain_is_short g none i chain j lt h =
    let n = length-le_from_distinct_below (passed g i chain) g.events (passed_once g none i chain j h) (passed_is_event g i chain j lt h) in
    let m = length-passed g i chain in
    omega arith
