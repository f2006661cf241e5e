-- The way back from an event that was reached.
use Rattle.std.proofs.Common.{◌≡◌, ℕ, ◌<◌, ◌≤◌, Bool, IsTrue, List, ◌∷◌, length, Option, Some, None, refl, sym, ap, subst, ◌∙◌, slice_index, slice_index_or}
use Rattle.dm_graph.specs.Arcs.{Chain}
use Rattle.dm_graph.specs.Arrays.{AreRanks}
use Rattle.dm_network.specs.Net.{Net, EndsAreKnown, activity_at}
use Rattle.dm_network.specs.Held.{arcs_of, is_held}
use Rattle.dm_order.specs.Inside.Reaching.{IsCause, HasReached}

module _ (net : Net) (held : List Bool) (order ranks : List ℕ) (ranked : AreRanks (length net.events) order ranks) (known : EndsAreKnown net) where
  -- events of one place are one
  same_event : (x y : ℕ) → x < length net.events → y < length net.events → slice_index ranks x ≡ slice_index ranks y → x ≡ y
  same_event x y x_in y_in same = sym (ranked.stands_there x x_in) ∙ ap (slice_index order) same ∙ ranked.stands_there y y_in

  -- an activity in front of a way
  put_in_front : (a event t : ℕ) (way : List ℕ) → a < length net.activities → IsTrue (is_held held a) → event < length net.events →
      slice_index ranks (activity_at net a).head ≡ slice_index ranks event → Chain (arcs_of net (is_held held)) event way t →
      Chain (arcs_of net (is_held held)) (activity_at net a).tail (a ∷ way) t
  put_in_front a event t way lt holds is_event same chain = (
    record { is_arc = lt; is_held = holds; from_event = known.tails a lt; to_event = known.heads a lt },
    refl,
    subst (λ (e : ℕ). Chain (arcs_of net (is_held held)) e way t) (sym (same_event (activity_at net a).head event (known.heads a lt) is_event same)) chain,
  )

  module _ (low high : ℕ) (causes : List (Option ℕ)) (reached : HasReached net held ranks low high high causes)
      (event a : ℕ) (is_event : event < length net.events) (later : low < slice_index ranks event) (up : slice_index ranks event ≤ high)
      (is : slice_index_or causes (slice_index ranks event) None ≡ Some a) where
    pub cause : IsCause net held ranks causes low (slice_index ranks event) a
    cause = reached.caused (slice_index ranks event) a later up is

    pub traced : (t : ℕ) (way : List ℕ) → Chain (arcs_of net (is_held held)) event way t → Chain (arcs_of net (is_held held)) (activity_at net a).tail (a ∷ way) t
    traced t way chain = put_in_front a event t way cause.is_activity cause.holds is_event cause.head chain
