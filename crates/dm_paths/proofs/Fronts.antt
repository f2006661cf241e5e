-- The fronts of a path, one decision after another.
use Rattle.std.proofs.Common.{◌≡◌, ℕ, zero, suc, ◌+◌, ◌<◌, Bool, false, List, [], ◌∷◌, length, take, get_or, Some, sym, subst, arith}
use Rattle.std.specs.Prelude.{Contains, slice_get}
use Rattle.std.proofs.lemmas.List.{take_more}
use Rattle.std.proofs.lemmas.List.Elements.{All-take}
use Rattle.std.proofs.lemmas.Option.{slice_get_within}
use Rattle.dm_network.specs.Net.{Net}
use Rattle.dm_network.specs.Start.{IsNetwork}
use Rattle.dm_rows.specs.declared.messages.Decision.{Decision}
use Rattle.dm_rows.specs.declared.messages.Flip.{Flip}
use Rattle.dm_rows.specs.Rows.{RowsValue, IsSized}
use Rattle.dm_rows.specs.Decide.{IsChoiceList, choice_of, free_choices_of}
use Rattle.dm_rows.specs.Relax.{is_undecided_change, is_undecided_pair}
use Rattle.dm_paths.specs.Flags.{AreFlags, with_change, with_pair}
use Rattle.dm_paths.specs.Decisions.{AddsDecision, IsFlipOf}
use Rattle.dm_paths.proofs.Decided.{changes_decided, pairs_decided}
use Rattle.dm_paths.proofs.Lists.{pushed}

taken : (k : ℕ) (xs : List Decision) (m : ℕ) (x : Decision) → slice_get (take k xs) m ≡ Some x → slice_get xs m ≡ Some x
taken zero xs m x e = absurd (let n = slice_get_within {A = Decision} [] m x e in omega (arith, n))
taken (suc k) [] m x e = e
taken (suc k) (y ∷ xs) zero x e = e
taken (suc k) (y ∷ xs) (suc m) x e = taken k xs m x e

module _ (net : Net) (rows : RowsValue) (path : List Decision) (list : IsChoiceList net rows path) where
  pub front_list : (k : ℕ) → IsChoiceList net rows (take k path)
  front_list k = record {
    free = All-take (λ d. Contains (free_choices_of net rows) (choice_of d)) k path list.free;
    once = λ m n d e f g same. list.once m n d e (taken k path m d f) (taken k path n e g) same;
  }

  next_adds : (i : ℕ) (d : Decision) → i < length path → AddsDecision (take i path) (take (i + 1) path) (get_or path i d)
  next_adds i d lt =
      let more = take_more path i d lt in
      subst (λ p. AddsDecision (take i path) p (get_or path i d)) (sym more)
      (pushed net rows (take i path) (get_or path i d) (subst (IsChoiceList net rows) more (front_list (i + 1))))

  -- the flags of what is undecided, with the next decision of the path
  pub next_changes : IsNetwork net → IsSized net rows → (i : ℕ) (d : Decision) → i < length path → (flip : Flip) → IsFlipOf net rows (get_or path i d) flip →
      (flags : List Bool) → AreFlags (is_undecided_change net rows (take i path)) (length net.activities) flags →
      AreFlags (is_undecided_change net rows (take (i + 1) path)) (length net.activities) (with_change flip false flags)
  next_changes network sized i d lt flip is flags h =
      changes_decided net network rows sized (take i path) (take (i + 1) path) (front_list i) (front_list (i + 1)) (get_or path i d) (next_adds i d lt) flip is flags h

  pub next_pairs : IsNetwork net → IsSized net rows → (i : ℕ) (d : Decision) → i < length path → (flip : Flip) → IsFlipOf net rows (get_or path i d) flip →
      (flags : List Bool) → AreFlags (is_undecided_pair net rows (take i path)) (length net.pairs) flags →
      AreFlags (is_undecided_pair net rows (take (i + 1) path)) (length net.pairs) (with_pair flip false flags)
  next_pairs network sized i d lt flip is flags h =
      pairs_decided net network rows sized (take i path) (take (i + 1) path) (front_list i) (front_list (i + 1)) (get_or path i d) (next_adds i d lt) flip is flags h
