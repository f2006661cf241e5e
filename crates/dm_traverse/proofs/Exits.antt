-- What a search is after each kind of node.
use Rattle.std.proofs.Common.{◌≡◌, ℕ, ◌+◌, ◌≤◌, List, [], ◌∷◌, ◌++◌, length, reverse, refl, sym, ap, subst, ◌∙◌, ◌⊎◌, inl, inr, arith, Some, None, length-append}
use Rattle.std.proofs.lemmas.List.{reverse-append, length-reverse}
use Rattle.dm_network.specs.Start.{IsNetwork}
use Rattle.dm_rows.specs.declared.messages.Choice.{Choice}
use Rattle.dm_rows.specs.declared.messages.Decision.{Decision}
use Rattle.dm_tree.specs.declared.forms.Node.{Node}
use Rattle.dm_tree.specs.declared.forms.Node.TheVariants.{Inner, Bound, Open, Hole}
use Rattle.dm_tree.specs.Trees.{choice_in}
use Rattle.dm_rows.specs.Sides.{first_decision}
use Rattle.dm_tree.specs.Plans.{Task}
use Rattle.dm_tree.specs.Pending.{pending}
use Rattle.dm_traverse.specs.declared.searching.Best.{Best}
use Rattle.dm_traverse.specs.Inside.Searching.{AreBest, IsUsedUp, IsSearched, IsCeiling, IsSettled, IsBetter, IsSplit, IsAdvanced}
use Rattle.dm_traverse.proofs.Advancing.{searched_lower, descended, left, replaced, split}

one_more : (nodes more : List Node) (n : Node) → more ≡ nodes ++ n ∷ [] → length more ≡ length nodes + 1
one_more nodes more n e = ap length e ∙ length-append nodes (n ∷ [])

-- a node more, of which the nodes left are told by what is due
advanced : (task : Task) (limit cost : ℕ) (nodes more due old : List Node) (new : List Decision) (best : Best) (n : Node) → more ≡ nodes ++ n ∷ [] →
    due ≡ old → best.cost ≤ cost → IsSearched task limit best.cost more (reverse old) new → AreBest task best.choices best.cost →
    IsAdvanced task limit (length nodes) cost more (reverse due) new best
advanced task limit cost nodes more due old new best n e same le s are =
    record {
      searched = rw same s;
      are_best = are;
      no_dearer = le;
      one_more = one_more nodes more n e;
    }

total_is : (nodes old : List Node) (n : Node) (total : ℕ) → total ≡ length nodes + 1 + length old → total ≡ length nodes + length (n ∷ reverse old)
total_is nodes old n total e = let count = length-reverse old in omega (arith, count)

-- a leaf that is open has used up what it may
used_at : (task : Task) (path : List Decision) (best total limit ceiling : ℕ) (m : Node) → IsSettled task path best ceiling m →
    IsCeiling task.budget total limit ceiling → (c : ℕ) → m ≡ Open c → IsUsedUp task.budget total limit c
used_at task path best total limit ceiling m settled is c e =
    elim is.used [
      | inl full ↦ inl full
      | inr same ↦ inr (let le = settled.used c e in omega (arith, le, same))
    ]

module _ (task : Task) (network : IsNetwork task.net) (limit : ℕ) (nodes more due old : List Node) (path new : List Decision) (n : Node) (best : Best) where
  pub past_choice : (c : Choice) → Some c ≡ choice_in n → more ≡ nodes ++ Inner c ∷ [] → new ≡ path ++ first_decision c ∷ [] → due ≡ old →
      IsSearched task limit best.cost nodes (n ∷ reverse old) path → AreBest task best.choices best.cost →
      IsAdvanced task limit (length nodes) best.cost more (reverse due) new best
  past_choice c is e f same s are =
      advanced task limit best.cost nodes more due old new best (Inner c) e same (omega arith)
      (descended task network limit best.cost nodes more (reverse old) path new n c is e f s) are

  -- a leaf that takes the place of one
  in_place : (cost total ceiling : ℕ) (m : Node) → choice_in n ≡ None → IsSettled task path cost ceiling m → IsCeiling task.budget total limit ceiling →
      total ≡ length nodes + length (n ∷ reverse old) → more ≡ nodes ++ m ∷ [] → (pending path ≡ new ∷ pending new) ⊎ (pending path ≡ []) →
      IsSearched task limit cost nodes (n ∷ reverse old) path → IsSearched task limit cost more (reverse old) new
  in_place cost total ceiling m leaf settled is all e due s =
      left task network limit cost nodes more (reverse old) path new m settled.is_leaf
      (λ c at. subst (λ (k : ℕ). IsUsedUp task.budget k limit c) all (used_at task path cost total limit ceiling m settled is c at)) e due
      (replaced task network limit cost nodes (reverse old) path n m leaf settled.is_leaf settled.known s)

  pub past_leaf : (at : List Decision) (total ceiling : ℕ) (m : Node) → at ≡ path → None ≡ choice_in n → IsSettled task at best.cost ceiling m →
      IsCeiling task.budget total limit ceiling → total ≡ length nodes + 1 + length old → more ≡ nodes ++ m ∷ [] →
      (pending path ≡ new ∷ pending new) ⊎ (pending path ≡ []) → due ≡ old →
      IsSearched task limit best.cost nodes (n ∷ reverse old) path → AreBest task best.choices best.cost →
      IsAdvanced task limit (length nodes) best.cost more (reverse due) new best
  past_leaf at total ceiling m there leaf settled is all e turned same s are =
      advanced task limit best.cost nodes more due old new best m e same (omega arith)
      (in_place best.cost total ceiling m (sym leaf) (subst (λ p. IsSettled task p best.cost ceiling m) there settled) is (total_is nodes old n total all) e turned s) are

  pub past_better : (at : List Decision) (before total ceiling : ℕ) → at ≡ path → None ≡ choice_in n → IsBetter task at before best →
      IsCeiling task.budget total limit ceiling → total ≡ length nodes + 1 + length old → more ≡ nodes ++ Bound best.cost ∷ [] →
      (pending path ≡ new ∷ pending new) ⊎ (pending path ≡ []) → due ≡ old →
      IsSearched task limit before nodes (n ∷ reverse old) path → IsAdvanced task limit (length nodes) before more (reverse due) new best
  past_better at before total ceiling there leaf better is all e turned same s =
      let b : IsBetter task path before best = subst (λ p. IsBetter task p before best) there better in
      advanced task limit before nodes more due old new best (Bound best.cost) e same b.less
      (in_place best.cost total ceiling (Bound best.cost) (sym leaf)
      (record { is_leaf = refl; known = record { cost = b.relaxed; no_less = omega arith }; used = λ c is. cc }) is (total_is nodes old n total all) e turned
      (searched_lower task limit before best.cost nodes (n ∷ reverse old) path b.less s)) b.are_best

  pub past_split : (at : List Decision) (total ceiling : ℕ) (c : Choice) → at ≡ path → None ≡ choice_in n → IsSplit task at ceiling c →
      IsCeiling task.budget total limit ceiling → total ≡ length nodes + 1 + length old → more ≡ nodes ++ Inner c ∷ [] →
      new ≡ path ++ first_decision c ∷ [] → due ≡ (old ++ Hole ∷ []) ++ Hole ∷ [] →
      IsSearched task limit best.cost nodes (n ∷ reverse old) path → AreBest task best.choices best.cost →
      IsAdvanced task limit (length nodes) best.cost more (reverse due) new best
  past_split at total ceiling c there leaf found is all e f same s are =
      let whole = total_is nodes old n total all in
      let here : IsSplit task path ceiling c = subst (λ p. IsSplit task p ceiling c) there found in
      let room : total + 2 ≤ task.budget = is.room here.below in
      let holes : reverse due ≡ Hole ∷ Hole ∷ reverse old = rw same (simp reverse-append) in
      record {
        searched = rw holes (descended task network limit best.cost nodes more (Hole ∷ Hole ∷ reverse old) path new (Inner c) c refl e f
            (split task network limit best.cost nodes (reverse old) path n c ceiling (sym leaf) here (omega (arith, whole, room)) s));
        are_best = are;
        no_dearer = omega arith;
        one_more = one_more nodes more (Inner c) e;
      }
