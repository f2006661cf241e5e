-- The completion of a path that violates nothing has the relaxed times and the relaxed cost.
use Rattle.std.proofs.Common.{◌≡◌, ℕ, ◌<◌, Bool, true, false, List, ◌++◌, length, map, Option, Some, None, refl, sym, ap, subst, ◌∙◌, ◌⊎◌, inl, inr, arith}
use Rattle.std.specs.Prelude.{filter, Contains, All, not, nat_lt}
use Rattle.std.specs.List.{range_with_len}
use Rattle.std.proofs.lemmas.Bool.{not_from_true, and_right, cond-false}
use Rattle.std.proofs.lemmas.List.{map-append}
use Rattle.std.proofs.lemmas.List.Elements.{All-contains, All-filter, All-weaker, Contains-append_left, Contains-append_right}
use Rattle.std.proofs.lemmas.List.Folds.{list_any_at}
use Rattle.std.proofs.lemmas.List.FromFn.{length-range_with_len, get_or-range_with_len}
use Rattle.dm_network.specs.Net.{Net, pair_at}
use Rattle.dm_network.specs.Start.{IsNetwork}
use Rattle.dm_rows.specs.declared.messages.Choice.{Choice}
use Rattle.dm_rows.specs.declared.messages.Decision.{Decision}
use Rattle.dm_rows.specs.Rows.{RowsValue, IsSized, kept_at, small_first_at}
use Rattle.dm_rows.specs.Decide.{free_choices_of, choice_of, change_choice, pair_choice, is_free_change, is_free_pair, with_decisions, IsChoiceList}
use Rattle.dm_rows.specs.Timetable.{time_at}
use Rattle.dm_rows.specs.Relax.{is_same_choice, is_decided, is_undecided_change, is_undecided_pair}
use Rattle.dm_relax.specs.Complete.{completed_kept, completed_small_first, completed_change, completed_pair, completion_of}
use Rattle.dm_paths.specs.Decisions.{change_decision, pair_decision}
use Rattle.dm_paths.proofs.Naming.{Names, of_change, of_pair, names, change_decides, pair_decides}
use Rattle.dm_rows.proofs.Sides.{same_itself}
use Rattle.dm_paths.proofs.Setting.{HasDecision, has_each, has_kept, has_first}
use Rattle.dm_paths.proofs.Apart.{listed, Apart, free_are_apart, choice_list_from, in_map, map_through}

places_below : (test : ℕ → Bool) (n : ℕ) → All (λ i. i < n) (filter test (range_with_len 0 n))
places_below test n =
    All-filter test (λ i. i < n) (range_with_len 0 n)
    (λ k d lt.
    let lt' : k < n = omega (arith, length-range_with_len 0 n) in
    let e = get_or-range_with_len 0 n k d lt' in
    omega (arith, e))

-- the choice of a decision of the path is decided
pub is_decided_by : (path : List Decision) (d : Decision) (c : Choice) → Contains path d → choice_of d ≡ c → is_decided path c ≡ true
is_decided_by path d c h is =
    let same : is_same_choice (choice_of d) c ≡ true = subst (λ e. is_same_choice (choice_of d) e ≡ true) is (same_itself (choice_of d)) in
    list_any_at (λ e. is_same_choice (choice_of e) c) path h.0 d h.1
    (subst (λ e. is_same_choice (choice_of e) c ≡ true) (sym h.2) same)

pub cases_option : (o : Option ℕ) → (o ≡ None) ⊎ ((p : ℕ) × (o ≡ Some p))
cases_option None = inl refl
cases_option (Some p) = inr (p, refl)

module _ (net : Net) (network : IsNetwork net) (rows : RowsValue) (sized : IsSized net rows) (path : List Decision) (x : List ℕ)
    (is_path : IsChoiceList net rows path) where
  changes : List Decision
  changes = map (completed_change net rows path) (filter (is_free_change net rows) (range_with_len 0 (length net.activities)))

  pairs : List Decision
  pairs = map (completed_pair net rows path x) (filter (is_free_pair net rows) (range_with_len 0 (length net.pairs)))

  pub change_completed : (a : ℕ) → a < length net.activities → is_free_change net rows a ≡ true →
      Contains (completion_of net rows path x) (completed_change net rows path a)
  unfolding changes pairs
  change_completed a below free =
      Contains-append_left changes pairs (completed_change net rows path a)
      (listed (completed_change net rows path) (is_free_change net rows) 0 (length net.activities) a (omega arith) (omega arith) free)

  pub pair_completed : (p : ℕ) → p < length net.pairs → is_free_pair net rows p ≡ true →
      Contains (completion_of net rows path x) (completed_pair net rows path x p)
  unfolding changes pairs
  pair_completed p below free =
      Contains-append_right changes pairs (completed_pair net rows path x p)
      (listed (completed_pair net rows path x) (is_free_pair net rows) 0 (length net.pairs) p (omega arith) (omega arith) free)

  -- it decides each free choice, in order
  pub completion_decides : map choice_of (completion_of net rows path x) ≡ free_choices_of net rows
  unfolding changes pairs
  completion_decides =
      let free_changes : List ℕ = filter (is_free_change net rows) (range_with_len 0 (length net.activities)) in
      let free_pairs : List ℕ = filter (is_free_pair net rows) (range_with_len 0 (length net.pairs)) in
      let first : map choice_of changes ≡ map (change_choice net) free_changes =
      map_through (completed_change net rows path) choice_of (change_choice net) free_changes
      (λ k d lt. change_decides net network _ (completed_kept net rows path _)) in
      let second : map choice_of pairs ≡ map (pair_choice net) free_pairs =
      map_through (completed_pair net rows path x) choice_of (pair_choice net) free_pairs
      (All-weaker (λ p. p < length net.pairs) (λ p. choice_of (completed_pair net rows path x p) ≡ pair_choice net p)
      (λ p below. pair_decides net network p (completed_small_first net rows path x p) below) free_pairs
      (places_below (is_free_pair net rows) (length net.pairs))) in
      map-append choice_of changes pairs
      ∙ ap (λ cs. cs ++ map choice_of pairs) first
      ∙ ap (λ cs. map (change_choice net) free_changes ++ cs) second

  pub completion_is_list : IsChoiceList net rows (completion_of net rows path x)
  completion_is_list =
      choice_list_from net rows (completion_of net rows path x)
      (subst Apart (sym completion_decides) (free_are_apart net network rows))
      (λ d h. subst (λ cs. Contains cs (choice_of d)) completion_decides (in_map choice_of (completion_of net rows path x) d h))

  has_r : (d : Decision) → Contains path d → HasDecision net (with_decisions net rows path) d
  has_r d h = has_each net network rows sized path is_path d h

  -- and holds the decisions of the path
  holds_named : (d : Decision) → Contains path d → Names net rows d → Contains (completion_of net rows path x) d
  holds_named d h (of_change a kept below free is) =
      let decided : is_decided path (change_choice net a) ≡ true =
      is_decided_by path d (change_choice net a) h (ap choice_of is ∙ change_decides net network a kept) in
      let settled : is_undecided_change net rows path a ≡ false =
      and_right (is_free_change net rows a) (not (is_decided path (change_choice net a))) (not_from_true (is_decided path (change_choice net a)) decided) in
      let there : kept_at (with_decisions net rows path) a ≡ kept =
      has_kept net network (with_decisions net rows path) a kept below (subst (HasDecision net (with_decisions net rows path)) is (has_r d h)) in
      let same : completed_kept net rows path a ≡ kept =
      cond-false (is_undecided_change net rows path a) true (kept_at (with_decisions net rows path) a) settled ∙ there in
      subst (Contains (completion_of net rows path x)) (ap (change_decision net a) same ∙ sym is) (change_completed a below free)
  holds_named d h (of_pair p small below free is) =
      let decided : is_decided path (pair_choice net p) ≡ true =
      is_decided_by path d (pair_choice net p) h (ap choice_of is ∙ pair_decides net network p small below) in
      let settled : is_undecided_pair net rows path p ≡ false =
      and_right (is_free_pair net rows p) (not (is_decided path (pair_choice net p))) (not_from_true (is_decided path (pair_choice net p)) decided) in
      let there : small_first_at (with_decisions net rows path) p ≡ small =
      has_first net network (with_decisions net rows path) p small below (subst (HasDecision net (with_decisions net rows path)) is (has_r d h)) in
      let same : completed_small_first net rows path x p ≡ small =
      cond-false (is_undecided_pair net rows path p) (nat_lt (time_at x (pair_at net p).small) (time_at x (pair_at net p).large))
      (small_first_at (with_decisions net rows path) p) settled ∙ there in
      subst (Contains (completion_of net rows path x)) (ap (pair_decision net p) same ∙ sym is) (pair_completed p below free)

  pub completion_holds : (d : Decision) → Contains path d → Contains (completion_of net rows path x) d
  completion_holds d h =
      holds_named d h (names net rows d (All-contains (λ e. Contains (free_choices_of net rows) (choice_of e)) path d is_path.free h))
