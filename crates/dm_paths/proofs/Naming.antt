-- What a decision of a free choice names.
use Rattle.std.proofs.Common.{◌≡◌, ℕ, ◌<◌, Bool, true, false, eqb, List, length, map, get_or, Some, refl, sym, ap, ◌∙◌, inl, inr, arith}
use Rattle.std.specs.Prelude.{filter, Contains, All, option_map, position}
use Rattle.std.specs.List.{range_with_len}
use Rattle.std.proofs.lemmas.Bool.{eq-eqb, ne_eqb, lt-ltb, le-ltb}
use Rattle.std.proofs.lemmas.List.{get_or-map, length-map}
use Rattle.std.proofs.lemmas.List.FromFn.{length-range_with_len, get_or-range_with_len}
use Rattle.std.proofs.lemmas.List.Elements.{All-filter, filter_passes, Contains-append_cases}
use Rattle.dm_network.specs.Net.{Net, event_at, activity_at, pair_at, no_event, no_activity, no_pair, event_place, activity_place}
use Rattle.dm_network.specs.declared.parts.Pair.{Pair as Ends}
use Rattle.dm_network.specs.Pairs.{pair_place}
use Rattle.dm_network.specs.Start.{IsNetwork}
use Rattle.dm_network.specs.Inside.Flat.{ArePairsInOrder}
use Rattle.dm_network.proofs.Keys.{key_is_found, key_rises}
use Rattle.dm_network.proofs.PairKeys.{PassesOnly, pair_is_found, joins_forward, joins_backward}
use Rattle.dm_rows.specs.declared.messages.Choice.{Choice}
use Rattle.dm_rows.specs.declared.messages.Choice.TheVariants.{Change, Pair}
use Rattle.dm_rows.specs.declared.messages.Decision.{Decision}
use Rattle.dm_rows.specs.declared.messages.Decision.TheVariants.{Keep, First}
use Rattle.dm_rows.specs.declared.messages.Flip.{Flip}
use Rattle.dm_rows.specs.declared.messages.Flip.TheVariants.{Keep as KeepFlip, Drop as DropFlip, First as FirstFlip}
use Rattle.dm_rows.specs.Rows.{RowsValue}
use Rattle.dm_rows.specs.Resolve.{flip_named, first_named}
use Rattle.dm_rows.specs.Decide.{is_free_change, is_free_pair, change_choice, pair_choice, free_changes_of, free_pairs_of, free_choices_of, choice_of}
use Rattle.dm_rows.specs.Sides.{first_decision, second_decision}
use Rattle.dm_rows.proofs.PairEnds.{small_is_event, large_is_event}
use Rattle.dm_rows.proofs.Sides.{is_either}
use Rattle.dm_paths.specs.Decisions.{change_decision, pair_decision}

-- what stands among the items of the places that pass comes from such a place
pub record IsFromPlace {X : Type 0} (f : ℕ → X) (test : ℕ → Bool) (n : ℕ) (x : X) : Type 0 where
  pub place : ℕ
  pub below : place < n
  pub passes : test place ≡ true
  pub is : f place ≡ x

pub from_place : {X : Type 0} (f : ℕ → X) (test : ℕ → Bool) (n : ℕ) (x : X) →
    Contains (map f (filter test (range_with_len 0 n))) x → IsFromPlace f test n x
from_place f test n x h =
    let places : List ℕ = filter test (range_with_len 0 n) in
    let within : h.0 < length places = let e = length-map places f in omega (arith, e, h.1) in
    let low : All (λ i. i < n) (range_with_len 0 n) =
    λ k d lt. let lt' : k < n = omega (arith, length-range_with_len 0 n) in
    let e = get_or-range_with_len 0 n k d lt' in omega (arith, e) in
    record {
      place = get_or places h.0 0;
      below = All-filter test (λ i. i < n) (range_with_len 0 n) low h.0 0 within;
      passes = filter_passes test (range_with_len 0 n) h.0 0 within;
      is = sym (get_or-map f places h.0 0 x within) ∙ h.2;
    }

-- a decision of a free choice is one of a free change or of a free pair, at its place
pub data Names (net : Net) (rows : RowsValue) (d : Decision) : Type 0 where
  of_change : (a : ℕ) (kept : Bool) → a < length net.activities → is_free_change net rows a ≡ true →
      d ≡ change_decision net a kept → Names net rows d
  of_pair : (p : ℕ) (small : Bool) → p < length net.pairs → is_free_pair net rows p ≡ true →
      d ≡ pair_decision net p small → Names net rows d

-- what decides a choice of the places that pass is the first or the second decision of such a place
by_place : (net : Net) (rows : RowsValue) (d : Decision) (of : ℕ → Choice) (test : ℕ → Bool) (n : ℕ) →
    ((k : ℕ) → k < n → test k ≡ true → d ≡ first_decision (of k) → Names net rows d) →
    ((k : ℕ) → k < n → test k ≡ true → d ≡ second_decision (of k) → Names net rows d) →
    Contains (map of (filter test (range_with_len 0 n))) (choice_of d) → Names net rows d
by_place net rows d of test n first second h =
    let f = from_place of test n (choice_of d) h in
    elim (is_either d (of f.place) (sym f.is)) [
      | inl e ↦ first f.place f.below f.passes e
      | inr e ↦ second f.place f.below f.passes e
    ]

pub names : (net : Net) (rows : RowsValue) (d : Decision) → Contains (free_choices_of net rows) (choice_of d) → Names net rows d
names net rows d h =
    elim (Contains-append_cases (free_changes_of net rows) (free_pairs_of net rows) (choice_of d) h) [
      | inl l ↦
          by_place net rows d (change_choice net) (is_free_change net rows) (length net.activities) (λ a. of_change a true) (λ a. of_change a false) l
      | inr r ↦ by_place net rows d (pair_choice net) (is_free_pair net rows) (length net.pairs) (λ p. of_pair p true) (λ p. of_pair p false) r
    ]

-- the flips of these decisions
abbrev pub change_flip : ℕ → Bool → Flip
change_flip a true = KeepFlip a
change_flip a false = DropFlip a

module _ (net : Net) (network : IsNetwork net) where
  pub activity_found : (a : ℕ) → a < length net.activities → activity_place net (activity_at net a).id ≡ Some a
  activity_found a below =
      key_is_found (λ x. x.id.0) net.activities network.formed.activities_ascend (activity_at net a).id.0 a no_activity below refl

  pub event_found : (i : ℕ) → i < length net.events → event_place net (event_at net i).id ≡ Some i
  event_found i below =
      key_is_found (λ x. x.id.0) net.events network.formed.events_ascend (event_at net i).id.0 i no_event below refl

  pub change_flips : (a : ℕ) (kept : Bool) → a < length net.activities → flip_named net (change_decision net a kept) ≡ Some (change_flip a kept)
  change_flips a true below = ap (option_map (λ x. KeepFlip x)) (activity_found a below)
  change_flips a false below = ap (option_map (λ x. DropFlip x)) (activity_found a below)

  in_order : ArePairsInOrder net.pairs
  in_order = record { smaller_first = network.formed.is_paired.smaller_first; ascending = network.formed.is_paired.ascending }

  pub rises : (p : ℕ) → p < length net.pairs → (pair_at net p).small < (pair_at net p).large
  rises p below = network.formed.is_paired.smaller_first p below

  found : {test : Ends → Bool} → (p : ℕ) → p < length net.pairs → PassesOnly test (pair_at net p).small (pair_at net p).large → position test net.pairs ≡ Some p
  found p below alone = pair_is_found net.pairs in_order _ (pair_at net p).small (pair_at net p).large alone p no_pair below refl refl

  -- a pair is found by its ends in either order, whichever test tells it alone
  pub pair_found : (p : ℕ) → p < length net.pairs → pair_place net (pair_at net p).small (pair_at net p).large ≡ Some p
  pair_found p below = let up = rises p below in found p below (joins_forward (pair_at net p).small (pair_at net p).large (omega arith))

  pub pair_found_back : (p : ℕ) → p < length net.pairs → pair_place net (pair_at net p).large (pair_at net p).small ≡ Some p
  pair_found_back p below = let up = rises p below in found p below (joins_backward (pair_at net p).small (pair_at net p).large (omega arith))

  first_is : (x y p : ℕ) (b : Bool) → pair_place net x y ≡ Some p → eqb (pair_at net p).small x ≡ b →
      first_named net (Some x) (Some y) ≡ Some (FirstFlip p b)
  first_is x y p b e f = rw e (ap (λ t. Some (FirstFlip p t)) f)

  pub pair_flips : (p : ℕ) (small : Bool) → p < length net.pairs → flip_named net (pair_decision net p small) ≡ Some (FirstFlip p small)
  pair_flips p true below =
      let s : ℕ = (pair_at net p).small in
      let l : ℕ = (pair_at net p).large in
      rw (event_found s (small_is_event net network p below), event_found l (large_is_event net network p below))
      (first_is s l p true (pair_found p below) (eq-eqb s s refl))
  pair_flips p false below =
      let s : ℕ = (pair_at net p).small in
      let l : ℕ = (pair_at net p).large in
      let up : s < l = rises p below in
      rw (event_found s (small_is_event net network p below), event_found l (large_is_event net network p below))
      (first_is l s p false (pair_found_back p below) (ne_eqb s l (λ e. omega arith)))

  pub ids_rise : (p : ℕ) → p < length net.pairs → (event_at net (pair_at net p).small).id.0 < (event_at net (pair_at net p).large).id.0
  ids_rise p below =
      key_rises (λ x. x.id.0) net.events network.formed.events_ascend (pair_at net p).small (pair_at net p).large no_event (rises p below)
      (large_is_event net network p below)

  -- what the decisions of a change, of a pair decide
  pub change_decides : (a : ℕ) (kept : Bool) → choice_of (change_decision net a kept) ≡ change_choice net a
  change_decides a true = refl
  change_decides a false = refl

  pub pair_decides : (p : ℕ) (small : Bool) → p < length net.pairs → choice_of (pair_decision net p small) ≡ pair_choice net p
  pair_decides p true below = rw (lt-ltb _ _ (ids_rise p below)) refl
  pair_decides p false below =
      let up = ids_rise p below in
      rw (le-ltb (event_at net (pair_at net p).large).id.0 (event_at net (pair_at net p).small).id.0 (omega arith)) refl

  -- no two activities and no two pairs make one choice
  pub one_change : (a b : ℕ) → a < length net.activities → b < length net.activities → change_choice net a ≡ change_choice net b → a ≡ b
  one_change a b la lb e =
      let ids : (activity_at net a).id ≡ (activity_at net b).id = cc in
      let found : Some a ≡ Some b = sym (activity_found a la) ∙ ap (activity_place net) ids ∙ activity_found b lb in
      cc

  pub one_pair : (p q : ℕ) → p < length net.pairs → q < length net.pairs → pair_choice net p ≡ pair_choice net q → p ≡ q
  one_pair p q lp lq e =
      let d : pair_decision net p true ≡ pair_decision net q true = ap (λ c. first_of c) e in
      let found : Some (FirstFlip p true) ≡ Some (FirstFlip q true) = sym (pair_flips p true lp) ∙ ap (flip_named net) d ∙ pair_flips q true lq in
      cc
    where
      first_of : Choice → Decision
      first_of (Change a) = Keep a
      first_of (Pair i j) = First i j
