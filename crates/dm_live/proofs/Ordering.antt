-- The order beside the constraints.
use Rattle.std.proofs.Common.{◌≡◌, ◌≢◌, ℕ, ◌<◌, Bool, true, false, List, [], ◌∷◌, length, refl, sym, ap, subst, ◌∙◌, if◌then◌else◌, inl, inr, eq-eqb, get_or-set_same, get_or-set_other}
use Rattle.std.specs.Prelude.{slice_set}
use Rattle.std.proofs.lemmas.Bool.{cases_eq, ne_eqb}
use Rattle.dm_graph.proofs.Transfers.{cycle_carries}
use Rattle.dm_network.specs.Net.{Net, activity_at}
use Rattle.dm_network.specs.Held.{arcs_of, is_held, IsCycleOf}
use Rattle.dm_order.specs.Value.{OrderValue}
use Rattle.dm_order.specs.Orders.{held_with, held_without}
use Rattle.dm_settle.specs.Constraints.{ConstraintsValue}
use Rattle.dm_live.specs.Live.{is_fixed, is_held_on, HoldsUnfixed}
use Rattle.dm_live.proofs.Standing.{unless_on, unless_none}

-- one activity besides, or one less
pub one_with : (held : List Bool) (a b : ℕ) → b ≡ a → held_with held (a ∷ []) b ≡ true
one_with held a b is = rw (eq-eqb b a is)

pub others_with : (held : List Bool) (a b : ℕ) → b ≢ a → held_with held (a ∷ []) b ≡ is_held held b
others_with held a b ne = rw (ne_eqb b a ne)

pub one_without : (held : List Bool) (a b : ℕ) → b ≡ a → held_without held (a ∷ []) b ≡ false
one_without held a b is = rw (eq-eqb b a is)

pub others_without : (held : List Bool) (a b : ℕ) → b ≢ a → held_without held (a ∷ []) b ≡ is_held held b
others_without held a b ne = rw (ne_eqb b a ne)

set_at : (held : List Bool) (a b : ℕ) (flag : Bool) → a < length held → b ≡ a → is_held (slice_set held a flag) b ≡ flag
set_at held a b flag below is = subst (λ (j : ℕ). is_held (slice_set held a flag) j ≡ flag) (sym is) (get_or-set_same held a flag false below)

chosen : (c x y z w : Bool) → (c ≡ true → x ≡ z) → (c ≡ false → y ≡ w) → (if c then x else y) ≡ (if c then z else w)
chosen true x y z w one other = one refl
chosen false x y z w one other = other refl

module _ (net : Net) (order : OrderValue) (given : ConstraintsValue) (fixed : List Bool) (in_order : HoldsUnfixed net order given fixed) (a : ℕ)
    (lt : a < length net.activities) (below : a < length given.held) where
  pub without_one : (b : ℕ) → b < length net.activities → held_without order.held (a ∷ []) b ≡ is_held_on net (record given { held = slice_set given.held a false }) fixed b
  without_one b within =
      elim (cases_eq b a) [
        | inl is ↦ one_without order.held a b is ∙ sym (unless_none (is_fixed fixed (activity_at net b).tail))
            ∙ ap (λ (h : Bool). if is_fixed fixed (activity_at net b).tail then false else h) (sym (set_at given.held a b false below is))
        | inr ne ↦ others_without order.held a b ne ∙ in_order b within
            ∙ ap (λ (h : Bool). if is_fixed fixed (activity_at net b).tail then false else h) (sym (get_or-set_other given.held a b false false ne))
      ]

  -- an activity is held, and in the order unless its tail is fixed
  off_in_order : is_fixed fixed (activity_at net a).tail ≡ true → is_held order.held a ≡ false
  off_in_order on = in_order a lt ∙ ap (λ (c : Bool). if c then false else is_held given.held a) on

  either : (c : Bool) (b : ℕ) → b ≢ a → (if c then is_held order.held b else held_with order.held (a ∷ []) b) ≡ is_held order.held b
  either true b ne = refl
  either false b ne = others_with order.held a b ne

  pub with_one : (b : ℕ) → b < length net.activities →
      (if is_fixed fixed (activity_at net a).tail then is_held order.held b else held_with order.held (a ∷ []) b)
      ≡ is_held_on net (record given { held = slice_set given.held a true }) fixed b
  with_one b within =
      elim (cases_eq b a) [
        | inl is ↦ subst (λ (k : ℕ). (if is_fixed fixed (activity_at net a).tail then is_held order.held k else held_with order.held (a ∷ []) k)
            ≡ is_held_on net (record given { held = slice_set given.held a true }) fixed k) (sym is)
            (chosen (is_fixed fixed (activity_at net a).tail) (is_held order.held a) (held_with order.held (a ∷ []) a) false (is_held (slice_set given.held a true) a)
            off_in_order (λ off. one_with order.held a a refl ∙ sym (set_at given.held a a true below refl)))
        | inr ne ↦ either (is_fixed fixed (activity_at net a).tail) b ne ∙ in_order b within
            ∙ ap (λ (h : Bool). if is_fixed fixed (activity_at net b).tail then false else h) (sym (get_or-set_other given.held a b true false ne))
      ]

  still_held : (b : ℕ) → b < length net.activities → held_with order.held (a ∷ []) b ≡ true → is_held (slice_set given.held a true) b ≡ true
  still_held b within h =
      elim (cases_eq b a) [
        | inl is ↦ set_at given.held a b true below is
        | inr ne ↦ get_or-set_other given.held a b true false ne
            ∙ unless_on (is_fixed fixed (activity_at net b).tail) (is_held given.held b) (sym (in_order b within) ∙ sym (others_with order.held a b ne) ∙ h)
      ]

  pub cycle_with_one : (cycle : List ℕ) → IsCycleOf net (held_with order.held (a ∷ [])) cycle → IsCycleOf net (is_held (slice_set given.held a true)) cycle
  cycle_with_one cycle is =
      cycle_carries (arcs_of net (held_with order.held (a ∷ []))) (arcs_of net (is_held (slice_set given.held a true)))
      (λ b binds. record {
        binds = record { is_arc = binds.is_arc; is_held = still_held b binds.is_arc binds.is_held; from_event = binds.from_event; to_event = binds.to_event };
        same_tail = refl;
        same_head = refl;
      }) cycle is
