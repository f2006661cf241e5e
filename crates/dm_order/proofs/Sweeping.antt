-- A sweep over the places between the head and the tail of an activity that does not go forward.
use Rattle.std.proofs.Common.{◌≡◌, ℕ, ◌+◌, ◌-◌, ◌<◌, ◌≤◌, Bool, false, List, length, Option, sym, ap, ◌∙◌, inl, inr, arith, slice_index}
use Rattle.std.specs.List.{All}
use Rattle.dm_graph.specs.Arrays.{AreRanks}
use Rattle.dm_network.specs.Net.{Net, EndsAreKnown, activity_at}
use Rattle.dm_order.specs.Orders.{GoForward}
use Rattle.dm_order.specs.Inside.Placing.{GoForwardBut, GoForwardOrAlike, IsForwardOrAlike}
use Rattle.dm_order.specs.Inside.Reaching.{is_reached, HasReached}
use Rattle.dm_order.specs.Inside.Shifting.{reached_from, AreRankedAnew, ArePutAnew}
use Rattle.dm_order.proofs.FlagLemmas.{all_at}
use Rattle.dm_order.proofs.Shifted.{shifted_ranks, stays_before, comes_before}

-- where all but some go forward, and these do or are alike, all do or are alike
pub all_alike : (net : Net) (held : List Bool) (arcs ranks : List ℕ) (first : ℕ) → GoForwardBut net held arcs ranks →
    All (IsForwardOrAlike net ranks first) arcs → GoForwardOrAlike net held first ranks
all_alike net held arcs ranks first others these a lt holds =
    elim (others a lt holds) [
      | inl among ↦ all_at (IsForwardOrAlike net ranks first) arcs a these among
      | inr forward ↦ inl forward
    ]

module _ (net : Net) (held : List Bool) (order ranks : List ℕ) (ranked : AreRanks (length net.events) order ranks) (known : EndsAreKnown net)
    (first : ℕ) (is_activity : first < length net.activities) (low high : ℕ)
    (low_is : low ≡ slice_index ranks (activity_at net first).head) (high_is : high ≡ slice_index ranks (activity_at net first).tail) (behind : low ≤ high)
    (others : GoForwardOrAlike net held first ranks)
    (causes : List (Option ℕ)) (reached : HasReached net held ranks low high high causes) (free : is_reached causes high ≡ false)
    (order' ranks' : List ℕ)
    (ra : AreRankedAnew (reached_from causes low) order low (high + 1 - low) (high + 1 - low) ranks ranks')
    (pa : ArePutAnew (reached_from causes low) low (high + 1 - low) (high + 1 - low) order order') where
  within : low + (high + 1 - low) ≤ length net.events
  within = let h = ranked.has_place (activity_at net first).tail (known.tails first is_activity) in omega arith

  pub swept_ranks : AreRanks (length net.events) order' ranks'
  swept_ranks = shifted_ranks (length net.events) order ranks ranked (reached_from causes low) low (high + 1 - low) within order' ranks' ra pa

  reached_at : (i k : ℕ) → k ≡ low + i → is_reached causes k ≡ reached_from causes low i
  reached_at i k is = ap (is_reached causes) is

  pub swept_forward : GoForward net held ranks'
  swept_forward a lt holds =
      elim (others a lt holds) [
        | inl forward ↦
            stays_before (length net.events) order ranks ranked (reached_from causes low) low (high + 1 - low) within order' ranks' ra pa
            (activity_at net a).tail (activity_at net a).head (known.tails a lt) (known.heads a lt) forward
            (λ i j xi yj jb is.
            sym (reached_at j (slice_index ranks (activity_at net a).head) yj)
            ∙ reached.closed a lt holds (omega arith) (omega arith) forward (omega arith)
            (reached_at i (slice_index ranks (activity_at net a).tail) xi ∙ is))
        | inr alike ↦
            let tail_is : slice_index ranks (activity_at net a).tail ≡ low + (high - low) =
            let e : slice_index ranks (activity_at net a).tail ≡ slice_index ranks (activity_at net first).tail = ap (slice_index ranks) alike.tail in omega arith in
            let head_is : slice_index ranks (activity_at net a).head ≡ low + 0 =
            let e : slice_index ranks (activity_at net a).head ≡ slice_index ranks (activity_at net first).head = ap (slice_index ranks) alike.head in omega arith in
            comes_before (length net.events) order ranks ranked (reached_from causes low) low (high + 1 - low) within order' ranks' ra pa
            (activity_at net a).tail (activity_at net a).head (high - low) 0 (known.tails a lt) (known.heads a lt) tail_is head_is
            (omega arith) (omega arith)
            (sym (reached_at (high - low) high (omega arith)) ∙ free)
            (sym (reached_at 0 low (omega arith)) ∙ reached.begun)
      ]
