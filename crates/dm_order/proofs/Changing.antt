-- What activities that come and go do to an order.
use Rattle.std.proofs.Common.{◌≡◌, ℕ, ◌<◌, Bool, true, false, IsTrue, List, length, refl, sym, ap, ◌∙◌, ◌⊎◌, inl, inr, arith, eq-eqb, slice_index}
use Rattle.std.specs.Prelude.{◌==◌, if◌then◌else◌, slice_index_or}
use Rattle.std.specs.List.{All}
use Rattle.std.proofs.lemmas.List.Folds.{list_any_at}
use Rattle.dm_graph.proofs.Chains.{no_cycle_where_rank_rises}
use Rattle.dm_graph.proofs.Transfers.{cycle_carries}
use Rattle.dm_network.specs.Net.{Net}
use Rattle.dm_network.specs.Held.{arcs_of, is_held, IsCycleOf, HasNoCycleOf}
use Rattle.dm_order.specs.Value.{OrderValue}
use Rattle.dm_order.specs.Orders.{IsOrderOf, GoesForward, GoForward, is_among, held_with, held_without}
use Rattle.dm_order.specs.Inside.Flagging.{flagged}
use Rattle.dm_order.specs.Inside.Placing.{GoForwardBut}
use Rattle.dm_order.proofs.FlagLemmas.{set_by_is, all_at}

-- where all but some go forward, and these do, all do
pub all_forward : (net : Net) (held : List Bool) (arcs ranks : List ℕ) → GoForwardBut net held arcs ranks →
    All (GoesForward net ranks) arcs → GoForward net held ranks
all_forward net held arcs ranks others these a lt holds =
    elim (others a lt holds) [
      | inl among ↦ all_at (GoesForward net ranks) arcs a these among
      | inr forward ↦ forward
    ]

-- cycles of activities that are held alike
pub no_cycle_alike : (net : Net) (flags : List Bool) (held : ℕ → Bool) (ranks : List ℕ) → ((a : ℕ) → is_held flags a ≡ held a) →
    GoForward net flags ranks → HasNoCycleOf net held
no_cycle_alike net flags held ranks alike forward =
    no_cycle_where_rank_rises (arcs_of net held) (slice_index ranks) (λ a binds. forward a binds.is_arc (alike a ∙ binds.is_held))

pub cycle_alike : (net : Net) (flags : List Bool) (held : ℕ → Bool) (cycle : List ℕ) → ((a : ℕ) → is_held flags a ≡ held a) →
    IsCycleOf net (is_held flags) cycle → IsCycleOf net held cycle
cycle_alike net flags held cycle alike is =
    cycle_carries (arcs_of net (is_held flags)) (arcs_of net held)
    (λ a b. record {
      binds = record { is_arc = b.is_arc; is_held = sym (alike a) ∙ b.is_held; from_event = b.from_event; to_event = b.to_event };
      same_tail = refl;
      same_head = refl;
    }) cycle is

is_among_or : (b x : Bool) → (if b then true else x) ≡ true → (b ≡ true) ⊎ (x ≡ true)
is_among_or true x h = inl refl
is_among_or false x h = inr h

none_among : (b x : Bool) → (if b then false else x) ≡ true → x ≡ true
none_among true x h = cc
none_among false x h = h

module _ (held : List Bool) (arcs : List ℕ) (within : All (λ a. a < length held) arcs) where
  -- after an addition the activities are held or among those added
  pub added_is : (a : ℕ) → is_held (flagged true held arcs) a ≡ held_with held arcs a
  added_is a = set_by_is (λ _. true) held arcs within a

  pub removed_is : (a : ℕ) → is_held (flagged false held arcs) a ≡ held_without held arcs a
  removed_is a = set_by_is (λ _. false) held arcs within a

  pub added_are_held : (tried : List Bool) → tried ≡ flagged true held arcs → All (λ a. IsTrue (is_held tried a)) arcs
  added_are_held tried is k d lt =
      ap (λ (fs : List Bool). is_held fs (slice_index_or arcs k d)) is ∙ added_is (slice_index_or arcs k d)
      ∙ ap (λ (b : Bool). if b then true else is_held held (slice_index_or arcs k d))
      (list_any_at (λ b. slice_index_or arcs k d == b) arcs k d lt (eq-eqb (slice_index_or arcs k d) (slice_index_or arcs k d) refl))

  pub others_go_forward : (net : Net) (tried : List Bool) (ranks : List ℕ) → tried ≡ flagged true held arcs → GoForward net held ranks → GoForwardBut net tried arcs ranks
  others_go_forward net tried ranks is forward a lt holds =
      let holds_there : held_with held arcs a ≡ true = sym (added_is a) ∙ ap (λ (fs : List Bool). is_held fs a) (sym is) ∙ holds in
      elim (is_among_or (is_among arcs a) (is_held held a) holds_there) [
        | inl among ↦ inl among
        | inr was ↦ inr (forward a lt was)
      ]

  pub fewer_go_forward : (net : Net) (ranks : List ℕ) → GoForward net held ranks → GoForward net (flagged false held arcs) ranks
  fewer_go_forward net ranks forward a lt holds =
      forward a lt (none_among (is_among arcs a) (is_held held a) (sym (removed_is a) ∙ holds))

-- ---- activities that are tried

pub arcs_have_flags : (net : Net) (order : OrderValue) (arcs : List ℕ) → IsOrderOf net order → All (λ a. a < length net.activities) arcs →
    All (λ a. a < length order.held) arcs
arcs_have_flags net order arcs is are = λ k d lt. let w = are k d lt in let n = is.flag_count in omega arith

-- where none was tried, what is tried are the held activities and these
pub tried_with : (arcs : List ℕ) (held none tried : List Bool) → tried ≡ flagged true none arcs → none ≡ held → tried ≡ flagged true held arcs
tried_with arcs held none tried is none_tried = is ∙ ap (λ (fs : List Bool). flagged true fs arcs) none_tried
