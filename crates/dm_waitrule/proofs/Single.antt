-- A rule's order is one list.
use Rattle.std.proofs.Common.{ℕ, ◌≡◌, ◌<◌, List, length, get_or, inl, inr, arith}
use Rattle.std.specs.Prelude.{All}
use Rattle.std.proofs.lemmas.List.{get_or_default}
use Rattle.std.proofs.lemmas.List.Elements.{Contains-get_or}
use Rattle.dm_base.proofs.Lists.{Rises, one_rising}
use Rattle.dm_network.specs.Net.{Net}
use Rattle.dm_rows.specs.Rows.{RowsValue}
use Rattle.dm_waitrule.specs.Rules.{IsLookedAtBefore, IsRuleOrder}

never_both : (net : Net) (a b : ℕ) → IsLookedAtBefore net a b → IsLookedAtBefore net b a → ⊥
never_both net a b (inl p) (inl q) = omega arith
never_both net a b (inl p) (inr (e, q)) = omega arith
never_both net a b (inr (e, p)) (inl q) = omega arith
never_both net a b (inr (e, inl p)) (inr (f, inl q)) = omega arith
never_both net a b (inr (e, inl p)) (inr (f, inr (g, q))) = omega arith
never_both net a b (inr (e, inr (g, p))) (inr (f, inl q)) = omega arith
never_both net a b (inr (e, inr (g, p))) (inr (f, inr (h, q))) = omega arith

-- whatever stands past the end
rises_anyhow : (net : Net) (order : List ℕ) → ((m n : ℕ) → m < n → n < length order → IsLookedAtBefore net (get_or order m 0) (get_or order n 0)) → Rises (IsLookedAtBefore net) (never_both net) order
rises_anyhow net order rises = λ i j d lt within. rw (get_or_default order i d 0 (omega arith), get_or_default order j d 0 within) (rises i j lt within)

pub one_order : (net : Net) (rows : RowsValue) (order other : List ℕ) → IsRuleOrder net rows order → IsRuleOrder net rows other → order ≡ other
one_order net rows order other is too =
    one_rising (IsLookedAtBefore net) (never_both net) order other (rises_anyhow net order is.rises) (rises_anyhow net other too.rises)
    (λ a c. let f = is.free a c in too.each a f.0 f.1) (λ a c. let f = too.free a c in is.each a f.0 f.1)

pub order_within : (net : Net) (rows : RowsValue) (order : List ℕ) → IsRuleOrder net rows order → All (λ a. a < length net.activities) order
order_within net rows order is = λ k d lt. (is.free (get_or order k d) (Contains-get_or order k d lt)).0
