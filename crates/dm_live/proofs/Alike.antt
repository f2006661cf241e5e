-- An order that lets go of what constraints do not hold, and takes up what they hold besides.
use Rattle.std.proofs.Common.{◌≡◌, ℕ, ◌+◌, ◌<◌, Bool, true, false, List, [], ◌∷◌, length, refl, sym, ap, ◌∙◌, inl, inr, arith}
use Rattle.std.proofs.lemmas.Bool.{cases_eq, cases_lt}
use Rattle.dm_graph.proofs.Transfers.{cycle_carries}
use Rattle.dm_network.specs.Net.{Net}
use Rattle.dm_network.specs.Held.{arcs_of, is_held, IsCycleOf}
use Rattle.dm_order.specs.Value.{OrderValue}
use Rattle.dm_order.specs.Orders.{IsOrderOf, held_with, held_without}
use Rattle.dm_settle.specs.Constraints.{ConstraintsValue}
use Rattle.dm_live.specs.Live.{HasHeldCycle}
use Rattle.dm_live.specs.Inside.Aligning.{HoldsNoOthersBefore, HoldsAlikeBefore}
use Rattle.dm_live.proofs.Ordering.{one_with, others_with, one_without, others_without}

-- two flags of which each implies the other
both : (x y : Bool) → (x ≡ true → y ≡ true) → (y ≡ true → x ≡ true) → x ≡ y
both true y to from = sym (to refl)
both false true to from = from refl
both false false to from = refl

pub no_others_first : (net : Net) (order : OrderValue) (given : ConstraintsValue) → IsOrderOf net order → HoldsNoOthersBefore net order given 0
no_others_first net order given ordered = record { ordered = ordered; fewer = λ b lt. absurd (omega arith) }

module _ (net : Net) (order : OrderValue) (given : ConstraintsValue) (a : ℕ) (had : HoldsNoOthersBefore net order given a) where
  -- the activity is let go
  pub no_others_without : (now : OrderValue) → ((n : Net) → IsOrderOf n order → IsOrderOf n now) → ((b : ℕ) → is_held now.held b ≡ held_without order.held (a ∷ []) b) →
      HoldsNoOthersBefore net now given (a + 1)
  no_others_without now ordered held = record {
    ordered = ordered net had.ordered;
    fewer = λ b lt on. elim (cases_eq b a) [
      | inl is ↦ let off : is_held now.held b ≡ false = held b ∙ one_without order.held a b is in absurd cc
      | inr ne ↦ had.fewer b (omega arith) (sym (others_without order.held a b ne) ∙ sym (held b) ∙ on)
    ];
  }

  -- the activity is not held, or the constraints hold it
  pub no_others_with : (is_held order.held a ≡ true → is_held given.held a ≡ true) → HoldsNoOthersBefore net order given (a + 1)
  no_others_with one = record {
    ordered = had.ordered;
    fewer = λ b lt on. elim (cases_eq b a) [
      | inl is ↦ ap (is_held given.held) is ∙ one (ap (is_held order.held) (sym is) ∙ on)
      | inr ne ↦ had.fewer b (omega arith) on
    ];
  }

pub alike_first : (net : Net) (order : OrderValue) (given : ConstraintsValue) → HoldsNoOthersBefore net order given (length net.activities) → HoldsAlikeBefore net order given 0
alike_first net order given others = record { ordered = others.ordered; before = λ b lt. absurd (omega arith); behind = λ b past lt. others.fewer b lt }

module _ (net : Net) (order : OrderValue) (given : ConstraintsValue) (a : ℕ) (lt : a < length net.activities) (had : HoldsAlikeBefore net order given a) where
  pub alike_with : (now : OrderValue) → is_held given.held a ≡ true → IsOrderOf net now →
      ((b : ℕ) → is_held now.held b ≡ held_with order.held (a ∷ []) b) → HoldsAlikeBefore net now given (a + 1)
  alike_with now holds ordered held = record {
    ordered = ordered;
    before = λ b below. elim (cases_eq b a) [
      | inl is ↦ held b ∙ one_with order.held a b is ∙ sym holds ∙ ap (is_held given.held) (sym is)
      | inr ne ↦ held b ∙ others_with order.held a b ne ∙ had.before b (omega arith)
    ];
    behind = λ b past below on. had.behind b (omega arith) below (sym (others_with order.held a b (λ is. absurd (omega arith))) ∙ sym (held b) ∙ on);
  }

  -- both hold the activity, or neither
  pub alike_without : (is_held given.held a ≡ true → is_held order.held a ≡ true) → HoldsAlikeBefore net order given (a + 1)
  alike_without one = record {
    ordered = had.ordered;
    before = λ b below. elim (cases_eq b a) [
      | inl is ↦ ap (is_held order.held) is ∙ both (is_held order.held a) (is_held given.held a) (had.behind a (omega arith) lt) one ∙ ap (is_held given.held) (sym is)
      | inr ne ↦ had.before b (omega arith)
    ];
    behind = λ b past below. had.behind b (omega arith) below;
  }

  given_holds : is_held given.held a ≡ true → (b : ℕ) → b < length net.activities → held_with order.held (a ∷ []) b ≡ true → is_held given.held b ≡ true
  given_holds holds b below with_a = elim (cases_eq b a) [
    | inl is ↦ ap (is_held given.held) is ∙ holds
    | inr ne ↦
        let was : is_held order.held b ≡ true = sym (others_with order.held a b ne) ∙ with_a in
        elim (cases_lt b a) [
          | inl earlier ↦ sym (had.before b earlier) ∙ was
          | inr past ↦ had.behind b (omega arith) below was
        ]
  ]

  pub cycle_is_held : is_held given.held a ≡ true → (cycle : List ℕ) → IsCycleOf net (held_with order.held (a ∷ [])) cycle → HasHeldCycle net given
  cycle_is_held holds cycle is = record {
    cycle = cycle;
    is_cycle = cycle_carries (arcs_of net (held_with order.held (a ∷ []))) (arcs_of net (is_held given.held))
        (λ b binds. record {
          binds = record { is_arc = binds.is_arc; is_held = given_holds holds b binds.is_arc binds.is_held; from_event = binds.from_event; to_event = binds.to_event };
          same_tail = refl;
          same_head = refl;
        }) cycle is;
  }
