-- Choices that are open, and places at which they stand.
use Rattle.std.proofs.Common.{◌≡◌, ℕ, Bool, true, false, not, ◌&&◌, List, [], ◌∷◌, ◌++◌, length, map, sym, ap, subst, ◌∙◌, inl, inr, arith}
use Rattle.std.specs.Prelude.{Contains, filter}
use Rattle.std.specs.List.{range_with_len}
use Rattle.std.proofs.lemmas.Bool.{and_parts, and_from, not-true, not_from_false, both_ways}
use Rattle.std.proofs.lemmas.List.{map-append}
use Rattle.std.proofs.lemmas.List.Elements.{All-contains, Contains-append_left, Contains-append_right, Contains-append_cases, Contains-push_cases}
use Rattle.dm_network.specs.Net.{Net, pair_at}
use Rattle.dm_network.specs.Start.{IsNetwork}
use Rattle.dm_rows.specs.declared.messages.Choice.{Choice}
use Rattle.dm_rows.specs.declared.messages.Decision.{Decision}
use Rattle.dm_rows.specs.Cost.{comes_too_early}
use Rattle.dm_rows.specs.Decide.{IsChoiceList, choice_of, free_choices_of, is_free_change, is_free_pair, change_choice, pair_choice}
use Rattle.dm_rows.specs.Relax.{is_same_choice, is_decided, is_undecided_change, is_undecided_pair, is_violated_change, is_violated_pair, has_unmet_from}
use Rattle.dm_rows.specs.Rows.{RowsValue}
use Rattle.dm_paths.proofs.Naming.{from_place, one_change, one_pair}
use Rattle.dm_rows.proofs.Sides.{same_itself}
use Rattle.dm_paths.proofs.Apart.{Apart, listed, apart_append, choice_list_from}
use Rattle.dm_paths.proofs.Setting.{in_front}
use Rattle.dm_paths.specs.Flags.{is_flagged}
use Rattle.dm_paths.specs.declared.places.ChoicePlace.{ChoicePlace}
use Rattle.dm_paths.specs.declared.places.ChoicePlace.TheVariants.{Change, Pair}
use Rattle.dm_paths.specs.Flags.{AreFlags}
use Rattle.dm_paths.specs.Decisions.{IsOpen}
use Rattle.dm_paths.specs.Places.{IsPlaceOf, HasNoPlace, IsWithin, at_place}
use Rattle.dm_paths.proofs.Lists.{mapped, apart_from_once}
use Rattle.dm_paths.proofs.Paths.{one_passes}
use Rattle.dm_paths.proofs.Violating.{violated_change_by, violated_pair_by}
use Rattle.dm_tree.specs.Relaxed.{IsViolated}
use Rattle.dm_paths.specs.Decisions.{is_unmet_pair}

module _ (net : Net) (changes pairs : ℕ → Bool) where
  pub place_is_listed : (choice : Choice) (place : ChoicePlace) → IsPlaceOf net choice place → at_place changes pairs place ≡ true →
      Contains (map (change_choice net) (filter changes (range_with_len 0 (length net.activities))) ++ map (pair_choice net) (filter pairs (range_with_len 0 (length net.pairs)))) choice
  place_is_listed choice (Change a) is h =
      Contains-append_left (map (change_choice net) (filter changes (range_with_len 0 (length net.activities)))) (map (pair_choice net) (filter pairs (range_with_len 0 (length net.pairs)))) choice
      (subst (Contains (map (change_choice net) (filter changes (range_with_len 0 (length net.activities))))) is.1
      (let lt = is.0 in listed (change_choice net) changes 0 (length net.activities) a (omega arith) (omega (arith, lt)) h))
  place_is_listed choice (Pair p) is h =
      Contains-append_right (map (change_choice net) (filter changes (range_with_len 0 (length net.activities)))) (map (pair_choice net) (filter pairs (range_with_len 0 (length net.pairs)))) choice
      (subst (Contains (map (pair_choice net) (filter pairs (range_with_len 0 (length net.pairs))))) is.1
      (let lt = is.0 in listed (pair_choice net) pairs 0 (length net.pairs) p (omega arith) (omega (arith, lt)) h))

  pub none_is_listed : (choice : Choice) → HasNoPlace net choice →
      Contains (map (change_choice net) (filter changes (range_with_len 0 (length net.activities))) ++ map (pair_choice net) (filter pairs (range_with_len 0 (length net.pairs)))) choice → ⊥
  none_is_listed choice none h =
      elim (Contains-append_cases (map (change_choice net) (filter changes (range_with_len 0 (length net.activities)))) (map (pair_choice net) (filter pairs (range_with_len 0 (length net.pairs)))) choice h) [
        | inl l ↦ let f = from_place (change_choice net) changes (length net.activities) choice l in none.changes f.place f.below f.is
        | inr r ↦ let f = from_place (pair_choice net) pairs (length net.pairs) choice r in none.pairs f.place f.below f.is
      ]

  pub listed_at_place : IsNetwork net → (choice : Choice) (place : ChoicePlace) → IsPlaceOf net choice place →
      Contains (map (change_choice net) (filter changes (range_with_len 0 (length net.activities))) ++ map (pair_choice net) (filter pairs (range_with_len 0 (length net.pairs)))) choice →
      at_place changes pairs place ≡ true
  listed_at_place network choice (Change a) is h =
      elim (Contains-append_cases (map (change_choice net) (filter changes (range_with_len 0 (length net.activities)))) (map (pair_choice net) (filter pairs (range_with_len 0 (length net.pairs)))) choice h) [
        | inl l ↦
            let f = from_place (change_choice net) changes (length net.activities) choice l in
            let same : f.place ≡ a = one_change net network f.place a f.below is.0 (f.is ∙ sym is.1) in
            ap changes (sym same) ∙ f.passes
        | inr r ↦
            let f = from_place (pair_choice net) pairs (length net.pairs) choice r in
            let e : pair_choice net f.place ≡ change_choice net a = f.is ∙ sym is.1 in
            absurd cc
      ]
  listed_at_place network choice (Pair p) is h =
      elim (Contains-append_cases (map (change_choice net) (filter changes (range_with_len 0 (length net.activities)))) (map (pair_choice net) (filter pairs (range_with_len 0 (length net.pairs)))) choice h) [
        | inl l ↦
            let f = from_place (change_choice net) changes (length net.activities) choice l in
            let e : change_choice net f.place ≡ pair_choice net p = f.is ∙ sym is.1 in
            absurd cc
        | inr r ↦
            let f = from_place (pair_choice net) pairs (length net.pairs) choice r in
            let same : f.place ≡ p = one_pair net network f.place p f.below is.0 (f.is ∙ sym is.1) in
            ap pairs (sym same) ∙ f.passes
      ]

-- what is open
module _ (net : Net) (network : IsNetwork net) (rows : RowsValue) (path : List Decision) (choice : Choice) where
  undecided_parts : (free : ℕ → Bool) (of : ℕ → Choice) (k : ℕ) → of k ≡ choice → (free k && not (is_decided path (of k))) ≡ true → (free k ≡ true) × (is_decided path choice ≡ false)
  undecided_parts free of k is h =
      let both = and_parts (free k) (not (is_decided path (of k))) h in
      (both.0, ap (is_decided path) (sym is) ∙ not-true (is_decided path (of k)) both.1)

  pub open_where_flagged : (place : ChoicePlace) → IsPlaceOf net choice place → at_place (is_undecided_change net rows path) (is_undecided_pair net rows path) place ≡ true →
      IsOpen net rows path choice
  open_where_flagged (Change a) is h =
      let both = undecided_parts (is_free_change net rows) (change_choice net) a is.1 h in
      record { free = place_is_listed net (is_free_change net rows) (is_free_pair net rows) choice (Change a) is both.0; undecided = both.1 }
  open_where_flagged (Pair p) is h =
      let both = undecided_parts (is_free_pair net rows) (pair_choice net) p is.1 h in
      record { free = place_is_listed net (is_free_change net rows) (is_free_pair net rows) choice (Pair p) is both.0; undecided = both.1 }

  pub flagged_where_open : (place : ChoicePlace) → IsPlaceOf net choice place → IsOpen net rows path choice →
      at_place (is_undecided_change net rows path) (is_undecided_pair net rows path) place ≡ true
  flagged_where_open (Change a) is opened =
      and_from (is_free_change net rows a) (not (is_decided path (change_choice net a)))
      (listed_at_place net (is_free_change net rows) (is_free_pair net rows) network choice (Change a) is opened.free)
      (not_from_false (is_decided path (change_choice net a)) (ap (is_decided path) is.1 ∙ opened.undecided))
  flagged_where_open (Pair p) is opened =
      and_from (is_free_pair net rows p) (not (is_decided path (pair_choice net p)))
      (listed_at_place net (is_free_change net rows) (is_free_pair net rows) network choice (Pair p) is opened.free)
      (not_from_false (is_decided path (pair_choice net p)) (ap (is_decided path) is.1 ∙ opened.undecided))

  pub not_open : HasNoPlace net choice → IsOpen net rows path choice → ⊥
  not_open none opened = none_is_listed net (is_free_change net rows) (is_free_pair net rows) choice none opened.free

-- a choice list with a decision of what is open
pub open_list : (net : Net) (rows : RowsValue) (path : List Decision) (d : Decision) → IsChoiceList net rows path → IsOpen net rows path (choice_of d) →
    IsChoiceList net rows (path ++ d ∷ [])
open_list net rows path d list is =
    choice_list_from net rows (path ++ d ∷ [])
    (subst Apart (sym (map-append choice_of path (d ∷ [])))
    (apart_append (map choice_of path) (choice_of d ∷ []) (apart_from_once path list.once) (λ h. absurd (omega (arith, h.1)), tt)
    (λ c l r.
    let e : choice_of d ≡ c = elim (in_front (choice_of d) c [] r) [ inl here ↦ here | inr later ↦ absurd (omega (arith, later.1)) ] in
    let one = mapped choice_of path c l in
    let same : choice_of one.0 ≡ choice_of d = one.2 ∙ sym e in
    both_ways (is_decided path (choice_of d)) is.undecided
    (one_passes (λ x. is_same_choice (choice_of x) (choice_of d)) path one.0 one.1 (ap (λ x. is_same_choice x (choice_of d)) same ∙ same_itself (choice_of d))))))
    (λ e h. elim (Contains-push_cases path d e h) [
      | inl there ↦ All-contains (λ x. Contains (free_choices_of net rows) (choice_of x)) path e list.free there
      | inr here ↦ subst (λ x. Contains (free_choices_of net rows) (choice_of x)) here is.free
    ])

pub violated_is_open : (net : Net) → IsNetwork net → (rows : RowsValue) (path : List Decision) (x : List ℕ) (c : Choice) → IsViolated net rows path x c → IsOpen net rows path c
violated_is_open net network rows path x c among =
    elim (Contains-append_cases (map (change_choice net) (filter (is_violated_change net rows path x) (range_with_len 0 (length net.activities))))
    (map (pair_choice net) (filter (is_violated_pair net rows path x) (range_with_len 0 (length net.pairs)))) c among) [
      | inl l ↦
          let f = from_place (change_choice net) (is_violated_change net rows path x) (length net.activities) c l in
          let h = and_parts (is_undecided_change net rows path f.place) (comes_too_early net rows x f.place) f.passes in
          open_where_flagged net network rows path c (Change f.place) (f.below, f.is) h.0
      | inr r ↦
          let f = from_place (pair_choice net) (is_violated_pair net rows path x) (length net.pairs) c r in
          let h = and_parts (is_undecided_pair net rows path f.place && has_unmet_from net rows x f.place (pair_at net f.place).small)
          (has_unmet_from net rows x f.place (pair_at net f.place).large) f.passes in
          let u = and_parts (is_undecided_pair net rows path f.place) (has_unmet_from net rows x f.place (pair_at net f.place).small) h.0 in
          open_where_flagged net network rows path c (Pair f.place) (f.below, f.is) u.0
    ]

pub flag_is : (net : Net) (rows : RowsValue) (path : List Decision) (choice : Choice) (place : ChoicePlace) → IsPlaceOf net choice place → (changes pairs : List Bool) →
    AreFlags (is_undecided_change net rows path) (length net.activities) changes → AreFlags (is_undecided_pair net rows path) (length net.pairs) pairs →
    at_place (is_flagged changes) (is_flagged pairs) place ≡ at_place (is_undecided_change net rows path) (is_undecided_pair net rows path) place
flag_is net rows path choice (Change a) is changes pairs are_changes are_pairs = are_changes.each a is.0
flag_is net rows path choice (Pair p) is changes pairs are_changes are_pairs = are_pairs.each p is.0

-- the place of a choice is within the network
pub is_within : (net : Net) (choice : Choice) (place : ChoicePlace) → IsPlaceOf net choice place → IsWithin net place
is_within net choice (Change a) is = is.0
is_within net choice (Pair p) is = is.0

-- a choice is violated where its flag is set and the times do not keep it
module _ (net : Net) (network : IsNetwork net) (rows : RowsValue) (path : List Decision) (x : List ℕ) (choice : Choice) (place : ChoicePlace) (is : IsPlaceOf net choice place)
    (changes pairs : List Bool) (are_changes : AreFlags (is_undecided_change net rows path) (length net.activities) changes)
    (are_pairs : AreFlags (is_undecided_pair net rows path) (length net.pairs) pairs) where
  violated_at : (at : ChoicePlace) → IsPlaceOf net choice at →
      at_place (is_violated_change net rows path x) (is_violated_pair net rows path x) at
      ≡ (at_place (is_flagged changes) (is_flagged pairs) at && at_place (comes_too_early net rows x) (is_unmet_pair net rows x) at)
  violated_at (Change a) there = violated_change_by net rows path x changes are_changes a there.0
  violated_at (Pair p) there = violated_pair_by net rows path x pairs are_pairs p there.0

  pub violated_where : (at_place (is_flagged changes) (is_flagged pairs) place && at_place (comes_too_early net rows x) (is_unmet_pair net rows x) place) ≡ true →
      IsViolated net rows path x choice
  violated_where h = place_is_listed net (is_violated_change net rows path x) (is_violated_pair net rows path x) choice place is (violated_at place is ∙ h)

  pub where_violated : IsViolated net rows path x choice →
      (at_place (is_flagged changes) (is_flagged pairs) place && at_place (comes_too_early net rows x) (is_unmet_pair net rows x) place) ≡ true
  where_violated h =
      sym (violated_at place is) ∙ listed_at_place net (is_violated_change net rows path x) (is_violated_pair net rows path x) network choice place is h

pub not_violated : (net : Net) (rows : RowsValue) (path : List Decision) (x : List ℕ) (choice : Choice) → HasNoPlace net choice → IsViolated net rows path x choice → ⊥
not_violated net rows path x choice none h = none_is_listed net (is_violated_change net rows path x) (is_violated_pair net rows path x) choice none h
