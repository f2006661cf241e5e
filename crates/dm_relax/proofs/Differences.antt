-- What of a completion differs from the rows.
use Rattle.std.proofs.Common.{◌≡◌, ℕ, ◌+◌, Bool, true, false, List, [], ◌∷◌, ◌++◌, length, map, Option, Some, None, refl, sym, ap, subst, ◌∙◌, inl, inr, arith}
use Rattle.std.specs.Prelude.{filter, ◌&&◌}
use mathlib.Core.Bool.{beq}
use Rattle.std.specs.List.{range_with_len, filter_map, cons_option}
use Rattle.std.proofs.lemmas.Bool.{cases_Bool, cond-true, cond-false, and_from, and_left, and_right, not_from_true, not_from_false, false_from_ne_true}
use Rattle.std.proofs.lemmas.List.{append_assoc}
use Rattle.std.proofs.lemmas.List.Elements.{filter-append, filter_map-append}
use Rattle.dm_network.specs.Net.{Net}
use Rattle.dm_network.proofs.Filling.{range_more}
use Rattle.dm_rows.specs.declared.messages.Decision.{Decision}
use Rattle.dm_rows.specs.Rows.{RowsValue}
use Rattle.dm_rows.specs.Resolve.{flip_named}
use Rattle.dm_rows.specs.Decide.{is_free_change, is_free_pair}
use Rattle.dm_tree.specs.Plans.{is_set}
use Rattle.dm_relax.specs.Complete.{completed_change, completed_pair, completion_of, differences_from}
use Rattle.dm_paths.specs.Decisions.{differs_from}
use Rattle.dm_relax.specs.Inside.Differing.{differing, differing_changes, differing_pairs}

-- one place more, and what it gives
pub gathered_more : (f : ℕ → Option Decision) (before : List Decision) (n : ℕ) (items more : List Decision) →
    items ≡ before ++ filter_map f (range_with_len 0 n) → more ≡ items ++ cons_option (f n) [] → more ≡ before ++ filter_map f (range_with_len 0 (n + 1))
gathered_more f before n items more is next =
    let e : 0 + n ≡ n = omega arith in
    next
    ∙ ap (λ xs. xs ++ cons_option (f n) []) is
    ∙ append_assoc before (filter_map f (range_with_len 0 n)) (cons_option (f n) [])
    ∙ ap (λ xs. before ++ xs) (sym (filter_map-append f (range_with_len 0 n) (n ∷ [])))
    ∙ ap (λ xs. before ++ filter_map f xs) (sym (range_more 0 n ∙ ap (λ m. range_with_len 0 n ++ m ∷ []) e))

-- what differs of the decisions of the places that pass
listed_once : (net : Net) (rows : RowsValue) (f : ℕ → Decision) (free : ℕ → Bool) (xs : List ℕ) →
    filter (differs_from net rows) (map f (filter free xs)) ≡ filter_map (λ a. differing net rows (free a) (f a)) xs
listed_once net rows f free [] = refl
listed_once net rows f free (a ∷ xs) =
    let rest = listed_once net rows f free xs in
    let later : List ℕ = filter free xs in
    let d : Bool = differs_from net rows (f a) in
    elim (cases_Bool (free a)) [
      | inl is ↦ elim (cases_Bool d) [
        | inl differs ↦
            ap (λ ys. filter (differs_from net rows) (map f ys)) (cond-true (free a) (a ∷ later) later is)
            ∙ cond-true d (f a ∷ filter (differs_from net rows) (map f later)) (filter (differs_from net rows) (map f later)) differs
            ∙ ap (λ ys. f a ∷ ys) rest
            ∙ sym (ap (λ o. cons_option o more) (cond-true (free a && d) (Some (f a)) None (and_from (free a) d is differs)))
        | inr same ↦
            ap (λ ys. filter (differs_from net rows) (map f ys)) (cond-true (free a) (a ∷ later) later is)
            ∙ cond-false d (f a ∷ filter (differs_from net rows) (map f later)) (filter (differs_from net rows) (map f later)) same
            ∙ rest
            ∙ sym (ap (λ o. cons_option o more) (cond-false (free a && d) (Some (f a)) None (and_right (free a) d same)))
      ]
      | inr fails ↦
          ap (λ ys. filter (differs_from net rows) (map f ys)) (cond-false (free a) (a ∷ later) later fails)
          ∙ rest
          ∙ sym (ap (λ o. cons_option o more) (cond-false (free a && d) (Some (f a)) None (and_left (free a) d fails)))
    ]
  where
    more : List Decision
    more = filter_map (λ a. differing net rows (free a) (f a)) xs

pub differences_gathered : (net : Net) (rows : RowsValue) (path : List Decision) (x : List ℕ) →
    differing_changes net rows path (length net.activities) ++ differing_pairs net rows path x (length net.pairs)
    ≡ differences_from net rows (completion_of net rows path x)
differences_gathered net rows path x =
    let changes : List Decision = map (completed_change net rows path) (filter (is_free_change net rows) (range_with_len 0 (length net.activities))) in
    let pairs : List Decision = map (completed_pair net rows path x) (filter (is_free_pair net rows) (range_with_len 0 (length net.pairs))) in
    sym (filter-append (differs_from net rows) changes pairs
    ∙ ap (λ ys. ys ++ filter (differs_from net rows) pairs)
    (listed_once net rows (completed_change net rows path) (is_free_change net rows) (range_with_len 0 (length net.activities)))
    ∙ ap (λ ys. differing_changes net rows path (length net.activities) ++ ys)
    (listed_once net rows (completed_pair net rows path x) (is_free_pair net rows) (range_with_len 0 (length net.pairs))))

-- when a decision differs from the rows
module _ (net : Net) (rows : RowsValue) where
  pub there_already : (d : Decision) (free : Bool) → is_set rows (flip_named net d) ≡ true → None ≡ differing net rows free d
  there_already d free is =
      sym (cond-false (free && differs_from net rows d) (Some d) None
      (and_right free (differs_from net rows d) (not_from_true (is_set rows (flip_named net d)) is)))

  pub is_new : (d : Decision) (free : Bool) → free ≡ true → (is_set rows (flip_named net d) ≡ true → ⊥) → Some d ≡ differing net rows free d
  is_new d free is other =
      sym (cond-true (free && differs_from net rows d) (Some d) None
      (and_from free (differs_from net rows d) is
      (not_from_false (is_set rows (flip_named net d)) (false_from_ne_true (is_set rows (flip_named net d)) other))))

-- what is gathered from a relaxed problem that is filled in, is the path's
module _ (net : Net) (rows : RowsValue) (path : List Decision) (x : List ℕ) (items changes : List Decision) where
  Gathers : Net → RowsValue → List Decision → Type 0
  Gathers n r p =
      changes ≡ differing_changes n r p (length n.activities) → items ≡ changes ++ differing_pairs n r p x (length n.pairs) →
      items ≡ differences_from net rows (completion_of net rows path x)

  for_itself : Gathers net rows path
  unfolding Gathers
  for_itself first all =
      all ∙ ap (λ ds. ds ++ differing_pairs net rows path x (length net.pairs)) first ∙ differences_gathered net rows path x

  pub gathered_from : (n : Net) (r : RowsValue) (p : List Decision) → n ≡ net → r ≡ rows → p ≡ path →
      changes ≡ differing_changes n r p (length n.activities) → items ≡ changes ++ differing_pairs n r p x (length n.pairs) →
      items ≡ differences_from net rows (completion_of net rows path x)
  unfolding Gathers
  gathered_from n r p en er ep =
      subst (λ m. Gathers m r p) (sym en) (subst (λ s. Gathers net s p) (sym er) (subst (λ q. Gathers net rows q) (sym ep) for_itself))

-- tests whether two flags are the same
pub same_flags : (a b : Bool) → beq a b ≡ true → a ≡ b
same_flags true true h = refl
same_flags false false h = refl
same_flags true false h = cc
same_flags false true h = cc

pub other_flags : (a b : Bool) → beq a b ≡ false → a ≡ b → ⊥
other_flags true true h e = cc
other_flags false false h e = cc
other_flags true false h e = cc
other_flags false true h e = cc
