-- The arrays beside a network, with flags of its activities, give the flagged ones as arcs, and may be searched.
use Rattle.std.proofs.Common.{◌≡◌, ℕ, ◌<◌, Bool, false, List, length, map, get_or, refl, sym, ap, ◌∙◌, subst, arith}
use Rattle.std.proofs.lemmas.List.{length-map}
use Rattle.dm_graph.specs.Arrays.{AreArcRows, AreEnds, AreArraysOf}
use Rattle.dm_graph.proofs.Windows.{rows_of_windows, windows_list}
use Rattle.dm_network.specs.Net.{Net, activity_at, places_into, EndsAreKnown}
use Rattle.dm_network.specs.Held.{arcs_of}
use Rattle.dm_network.specs.Inside.Flat.{IsAdjacency}
use Rattle.dm_network.proofs.Arraying.{look_up_mapped}

module _ (net : Net) (tails offsets places : List ℕ)
    (tails_are : tails ≡ map (λ a. a.tail) net.activities)
    (rows : IsAdjacency (places_into net) (length net.events) offsets places)
    (known : EndsAreKnown net) where
  tails_count : length tails ≡ length net.activities
  tails_count = ap length tails_are ∙ length-map net.activities (λ a. a.tail)

  tail_is : (a : ℕ) → get_or tails a 0 ≡ (activity_at net a).tail
  tail_is a = ap (λ xs. get_or xs a 0) tails_are ∙ look_up_mapped (λ a. a.tail) refl net.activities a

  pub flagged_rows : (n : ℕ) → n ≡ length net.events → AreArcRows n (length tails) offsets places
  flagged_rows n is =
      subst (λ m. AreArcRows m (length tails) offsets places) (sym is)
      (subst (λ m. AreArcRows (length net.events) m offsets places) (sym tails_count)
      (rows_of_windows (length net.events) (length net.activities) (λ a. (activity_at net a).head) offsets places
      rows.offset_count rows.rises rows.within rows.row))

  module _ (flags : List Bool) where
    pub flagged_ends : length flags ≡ length net.activities → (n : ℕ) → n ≡ length net.events → AreEnds n (length tails) tails flags
    flagged_ends as_many n is = record {
      tail_count = refl;
      held_count = as_many ∙ sym tails_count;
      from_event = λ a lt. let c = tails_count in let k = known.tails a (omega arith) in let e = tail_is a in omega arith;
    }

    pub flagged_arrays : (held : ℕ → Bool) → ((a : ℕ) → a < length net.activities → get_or flags a false ≡ held a) →
        AreArraysOf (arcs_of net held) tails offsets places flags
    flagged_arrays held same = record {
      offset_count = rows.offset_count;
      tail_count = tails_count;
      same_tail = λ a lt. tail_is a;
      same_held = same;
      lists = windows_list (length net.events) (length net.activities) (λ a. (activity_at net a).head) offsets places
          rows.offset_count rows.rises rows.within rows.row;
    }
