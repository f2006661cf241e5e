-- The arcs that bind at the start, by arrays.
use Rattle.std.proofs.Common.{◌≡◌, ℕ, ◌<◌, Bool, false, List, [], ◌∷◌, length, map, get_or, refl, sym, ap, ◌∙◌, subst, inl, inr, arith, Some, None}
use Rattle.std.specs.List.{All, range_with_len}
use Rattle.std.proofs.lemmas.Bool.{cases_Bool}
use Rattle.std.proofs.lemmas.List.{get_or_default}
use Rattle.std.proofs.lemmas.List.FromFn.{get_or-map-range_with_len, length-map-range_with_len}
use Rattle.std.proofs.lemmas.List.Elements.{All-nil, All-cons}
use Rattle.std.proofs.lemmas.List.Quantifiers.{position-Some}
use Rattle.dm_base.specs.declared.ids.ActId.{ActId}
use Rattle.dm_graph.specs.Arcs.{Arcs, Chain, IsCycle, IsOrder}
use Rattle.dm_graph.specs.Arrays.{AreArcRows, AreEnds, AreArraysOf}
use Rattle.dm_graph.proofs.Chains.{no_cycle_where_rank_rises, order_rises, place_in}
use Rattle.dm_network.specs.declared.parts.Activity.{Activity}
use Rattle.dm_network.specs.Net.{Net, no_activity, no_pair, activity_at, pair_at, is_headway, places_into, EndsAreKnown}
use Rattle.dm_network.specs.Pairs.{joins, own_pair, pair_place}
use Rattle.dm_network.specs.Start.{is_start_active, IsFormed, ShowsStartCycle}
use Rattle.dm_network.specs.Held.{arcs_of, ids_of}
use Rattle.dm_network.specs.Inside.Flat.{IsAdjacency}
use Rattle.dm_network.specs.Inside.Stages.{KnowsPair, HasNoStartCycle}
use Rattle.dm_network.proofs.PairKeys.{joins-true}
use Rattle.dm_network.proofs.Flagged.{flagged_rows, flagged_ends, flagged_arrays}

-- a pair that an activity belongs to is that of its ends
belongs_to : (net : Net) (a : Activity) (p : ℕ) → a.tail < length net.events → a.head < length net.events → a.pair ≡ own_pair net a → a.pair ≡ Some p →
    (p < length net.pairs) × ((pair_at net p).small < length net.events) × ((pair_at net p).large < length net.events)
belongs_to net a p tail head is some =
    elim (cases_Bool (is_headway a.kind)) [
      | inl headway ↦
          let found : pair_place net a.tail a.head ≡ Some p = (let e : own_pair net a ≡ pair_place net a.tail a.head = rw headway refl in sym e ∙ sym is ∙ some) in
          let s = position-Some (λ q. joins q a.tail a.head) net.pairs p no_pair found in
          elim (joins-true (pair_at net p) a.tail a.head s.1) [
            | inl straight ↦ let x = straight.0 in let y = straight.1 in (s.0, omega arith, omega arith)
            | inr turned ↦ let x = turned.0 in let y = turned.1 in (s.0, omega arith, omega arith)
          ]
      | inr other ↦
          let none : own_pair net a ≡ None = rw other refl in
          let never : None ≡ Some p = sym none ∙ sym is ∙ some in
          cc
    ]

pub knows_pairs : (net : Net) → IsFormed net → All (KnowsPair net) net.activities
knows_pairs net formed k d lt =
    subst (λ a. KnowsPair net a) (get_or_default net.activities k no_activity d lt)
    (λ p some. belongs_to net (activity_at net k) p (formed.ends_are_known.tails k lt) (formed.ends_are_known.heads k lt) (formed.is_paired.belongs k lt) some)

module _ (net : Net) (tails offsets places : List ℕ) (held : List Bool)
    (tails_are : tails ≡ map (λ a. a.tail) net.activities)
    (rows : IsAdjacency (places_into net) (length net.events) offsets places)
    (held_is : held ≡ map (is_start_active net) (range_with_len 0 (length net.activities)))
    (known : EndsAreKnown net) where
  pub start_rows : (n : ℕ) → n ≡ length net.events → AreArcRows n (length tails) offsets places
  start_rows n is = flagged_rows net tails offsets places tails_are rows known n is

  pub start_ends : (n : ℕ) → n ≡ length net.events → AreEnds n (length tails) tails held
  start_ends n is =
      flagged_ends net tails offsets places tails_are rows known held
      (ap length held_is ∙ length-map-range_with_len (is_start_active net) 0 (length net.activities)) n is

  pub start_arrays : AreArraysOf (arcs_of net (is_start_active net)) tails offsets places held
  start_arrays =
      flagged_arrays net tails offsets places tails_are rows known held (is_start_active net)
      (λ a lt. ap (λ xs. get_or xs a false) held_is ∙ get_or-map-range_with_len (is_start_active net) 0 (length net.activities) a a false lt (omega arith))

pub ordered_start : (net : Net) (order : List ℕ) → IsOrder (arcs_of net (is_start_active net)) order → HasNoStartCycle net
ordered_start net order is =
    no_cycle_where_rank_rises (arcs_of net (is_start_active net)) (place_in order) (order_rises (arcs_of net (is_start_active net)) order is)

chain_has_arcs : (g : Arcs) (i : ℕ) (chain : List ℕ) (j : ℕ) → Chain g i chain j → All (λ a. a < g.arcs) chain
chain_has_arcs g i [] j h = All-nil (λ a. a < g.arcs)
chain_has_arcs g i (a ∷ rest) j h = All-cons (λ x. x < g.arcs) a rest h.0.is_arc (chain_has_arcs g (g.head a) rest j h.2)

pub cycle_has_arcs : (g : Arcs) (cycle : List ℕ) → IsCycle g cycle → All (λ a. a < g.arcs) cycle
cycle_has_arcs g [] h = absurd h
cycle_has_arcs g (a ∷ rest) h = chain_has_arcs g (g.tail a) (a ∷ rest) (g.tail a) h

pub shown_start_cycle : (net : Net) (cycle : List ℕ) (ids : List ActId) → IsCycle (arcs_of net (is_start_active net)) cycle → ids ≡ ids_of net cycle → ShowsStartCycle net ids
shown_start_cycle net cycle ids is named = record { places = cycle; is_cycle = is; named = named }
