-- What the rows have after decisions of free choices, one after another.
use Rattle.std.proofs.Common.{◌≡◌, ℕ, ◌<◌, Bool, true, false, List, [], ◌∷◌, length, set, Option, Some, None, refl, sym, ap, subst, ◌∙◌, ◌⊎◌, inl, inr, arith}
use Rattle.std.specs.Prelude.{Contains, All, slice_get, not}
use Rattle.std.proofs.lemmas.Bool.{cases_Bool, not-true, not_from_false, both_ways}
use Rattle.std.proofs.lemmas.Grind.{get_or-set_at}
use Rattle.std.proofs.lemmas.List.{get_or-set_other, length-set}
use Rattle.std.proofs.lemmas.List.Elements.{All-head, All-tail, All-contains, Contains-append_cases, Contains-append_right, Contains-push_cases}
use Rattle.std.proofs.lemmas.Option.{slice_get-get_or}
use Rattle.dm_network.specs.Net.{Net}
use Rattle.dm_network.specs.Start.{IsNetwork}
use Rattle.dm_rows.specs.declared.messages.Decision.{Decision}
use Rattle.dm_rows.specs.declared.messages.Flip.{Flip}
use Rattle.dm_rows.specs.declared.messages.Flip.TheVariants.{Keep, Drop, First}
use Rattle.dm_rows.specs.Rows.{RowsValue, IsSized, kept_at, small_first_at, is_locked_change, is_locked_pair}
use Rattle.dm_rows.specs.Reach.{ReachesFlip}
use Rattle.dm_rows.specs.Resolve.{flip_named}
use Rattle.dm_rows.specs.Decide.{free_choices_of, change_choice, pair_choice, choice_of, with_flip, with_decisions, IsChoiceList}
use Rattle.dm_rows.specs.Relax.{is_same_choice}
use Rattle.dm_tree.specs.Plans.{is_set}
use Rattle.dm_tree.proofs.Freed.{free_change_is, free_pair_is}
use Rattle.dm_paths.specs.Decisions.{change_decision, pair_decision, ReachesNet}
use Rattle.dm_paths.proofs.Naming.{Names, of_change, of_pair, names, change_flip, change_flips, pair_flips, change_decides, pair_decides}
use Rattle.dm_rows.proofs.Sides.{same_choice, same_itself}

-- rows that differ from others in decisions alone
pub record DiffersInDecisions (rows r : RowsValue) : Type 0 where
  pub event_delays : r.event_delays ≡ rows.event_delays
  pub act_delays : r.act_delays ≡ rows.act_delays
  pub passed : r.passed ≡ rows.passed
  pub cancelled : r.cancelled ≡ rows.cancelled
  pub locked_changes : r.locked_changes ≡ rows.locked_changes
  pub locked_pairs : r.locked_pairs ≡ rows.locked_pairs
  pub clock : r.clock ≡ rows.clock
  pub kept : length r.kept ≡ length rows.kept
  pub small_first : length r.small_first ≡ length rows.small_first

pub differs_in_none : (rows : RowsValue) → DiffersInDecisions rows rows
differs_in_none rows =
    record {
      event_delays = refl;
      act_delays = refl;
      passed = refl;
      cancelled = refl;
      locked_changes = refl;
      locked_pairs = refl;
      clock = refl;
      kept = refl;
      small_first = refl;
    }

-- lists of decisions that are as long as those before
with_lists : (rows r : RowsValue) (kept small_first : List Bool) → length kept ≡ length r.kept → length small_first ≡ length r.small_first →
    DiffersInDecisions rows r → DiffersInDecisions rows (record r { kept = kept; small_first = small_first })
with_lists rows r kept small_first as_kept as_first h =
    record {
      event_delays = h.event_delays;
      act_delays = h.act_delays;
      passed = h.passed;
      cancelled = h.cancelled;
      locked_changes = h.locked_changes;
      locked_pairs = h.locked_pairs;
      clock = h.clock;
      kept = as_kept ∙ h.kept;
      small_first = as_first ∙ h.small_first;
    }

pub differs_after : (rows r : RowsValue) (flip : Option Flip) → DiffersInDecisions rows r → DiffersInDecisions rows (with_flip r flip)
differs_after rows r None h = h
differs_after rows r (Some (Keep a)) h = with_lists rows r (set r.kept a true) r.small_first (length-set r.kept a true) refl h
differs_after rows r (Some (Drop a)) h = with_lists rows r (set r.kept a false) r.small_first (length-set r.kept a false) refl h
differs_after rows r (Some (First p small)) h = with_lists rows r r.kept (set r.small_first p small) refl (length-set r.small_first p small) h

pub differs_with : (net : Net) (rows r : RowsValue) (ds : List Decision) → DiffersInDecisions rows r →
    DiffersInDecisions rows (with_decisions net r ds)
differs_with net rows r [] h = h
differs_with net rows r (d ∷ ds) h = differs_with net rows (with_flip r (flip_named net d)) ds (differs_after rows r (flip_named net d) h)

-- what is locked is decided as in the other rows
pub record KeepsLocked (rows r : RowsValue) : Type 0 where
  pub kept : (a : ℕ) → is_locked_change rows a ≡ true → kept_at r a ≡ kept_at rows a
  pub small_first : (p : ℕ) → is_locked_pair rows p ≡ true → small_first_at r p ≡ small_first_at rows p

pub keeps_all : (rows : RowsValue) → KeepsLocked rows rows
keeps_all rows = record { kept = λ a locked. refl; small_first = λ p locked. refl }

-- a flip within the network is within rows of its size
pub reaches_rows : (net : Net) (rows : RowsValue) (flip : Flip) → IsSized net rows → ReachesNet net flip → ReachesFlip rows flip
reaches_rows net rows (Keep a) sized r = let e = sized.kept in omega (arith, e, r)
reaches_rows net rows (Drop a) sized r = let e = sized.kept in omega (arith, e, r)
reaches_rows net rows (First p small) sized r = let e = sized.small_first in omega (arith, e, r)

abbrev pub HasDecision : Net → RowsValue → Decision → Type 0
HasDecision net r d = is_set r (flip_named net d) ≡ true

-- the rows have a decision exactly where a flag of theirs is as it wants it: the test of its flip is the flag, or that it is not set
module _ (net : Net) (r : RowsValue) (flag : Bool) (flip : Bool → Flip) (on : is_set r (Some (flip true)) ≡ flag)
    (off : is_set r (Some (flip false)) ≡ not flag) where
  flag_is : (d : Decision) (wanted : Bool) → flip_named net d ≡ Some (flip wanted) → HasDecision net r d → flag ≡ wanted
  flag_is d true named h = sym on ∙ subst (λ f. is_set r f ≡ true) named h
  flag_is d false named h = not-true flag (sym off ∙ subst (λ f. is_set r f ≡ true) named h)

  has_where : (d : Decision) (wanted : Bool) → flip_named net d ≡ Some (flip wanted) → flag ≡ wanted → HasDecision net r d
  has_where d true named h = subst (λ f. is_set r f ≡ true) (sym named) (on ∙ h)
  has_where d false named h = subst (λ f. is_set r f ≡ true) (sym named) (off ∙ not_from_false flag h)

after_change_kept : (r : RowsValue) (a : ℕ) (kept : Bool) → (with_flip r (Some (change_flip a kept))).kept ≡ set r.kept a kept
after_change_kept r a true = refl
after_change_kept r a false = refl

after_change_first : (r : RowsValue) (a : ℕ) (kept : Bool) → (with_flip r (Some (change_flip a kept))).small_first ≡ r.small_first
after_change_first r a true = refl
after_change_first r a false = refl

pub in_front : {X : Type 0} (x y : X) (xs : List X) → Contains (x ∷ xs) y → (x ≡ y) ⊎ Contains xs y
in_front x y xs h =
    elim (Contains-append_cases (x ∷ []) xs y h) [
      | inl s ↦ elim (Contains-push_cases [] x y s) [ inl r ↦ absurd (omega (arith, r.1)) | inr e ↦ inl e ]
      | inr r ↦ inr r
    ]

module _ (net : Net) (network : IsNetwork net) where
  -- what the rows have of a change, of a pair
  pub has_kept : (r : RowsValue) (a : ℕ) (kept : Bool) → a < length net.activities → HasDecision net r (change_decision net a kept) → kept_at r a ≡ kept
  has_kept r a kept below = flag_is net r (kept_at r a) (change_flip a) refl refl (change_decision net a kept) kept (change_flips net network a kept below)

  pub kept_has : (r : RowsValue) (a : ℕ) (kept : Bool) → a < length net.activities → kept_at r a ≡ kept → HasDecision net r (change_decision net a kept)
  kept_has r a kept below = has_where net r (kept_at r a) (change_flip a) refl refl (change_decision net a kept) kept (change_flips net network a kept below)

  pub has_first : (r : RowsValue) (p : ℕ) (small : Bool) → p < length net.pairs → HasDecision net r (pair_decision net p small) → small_first_at r p ≡ small
  has_first r p small below = flag_is net r (small_first_at r p) (First p) refl refl (pair_decision net p small) small (pair_flips net network p small below)

  pub first_has : (r : RowsValue) (p : ℕ) (small : Bool) → p < length net.pairs → small_first_at r p ≡ small → HasDecision net r (pair_decision net p small)
  first_has r p small below = has_where net r (small_first_at r p) (First p) refl refl (pair_decision net p small) small (pair_flips net network p small below)

  after_d : RowsValue → Decision → RowsValue
  after_d r d = with_flip r (flip_named net d)

  module _ (rows : RowsValue) (sized : IsSized net rows) (r : RowsValue) (over : DiffersInDecisions rows r) where
    in_kept : (a : ℕ) → a < length net.activities → a < length r.kept
    in_kept a below = let e = over.kept in let f = sized.kept in omega arith

    in_first : (p : ℕ) → p < length net.pairs → p < length r.small_first
    in_first p below = let e = over.small_first in let f = sized.small_first in omega arith

    -- a change that is decided
    kept_after : (a : ℕ) (kept : Bool) → a < length net.activities → kept_at (after_d r (change_decision net a kept)) a ≡ kept
    unfolding after_d
    kept_after a kept below =
        rw (change_flips net network a kept below, after_change_kept r a kept)
        (get_or-set_at r.kept a a kept true refl (in_kept a below))

    kept_after_other : (a b : ℕ) (kept : Bool) → a < length net.activities → (b ≡ a → ⊥) →
        kept_at (after_d r (change_decision net a kept)) b ≡ kept_at r b
    unfolding after_d
    kept_after_other a b kept below other =
        rw (change_flips net network a kept below, after_change_kept r a kept) (get_or-set_other r.kept a b kept true other)

    first_after_change : (a p : ℕ) (kept : Bool) → a < length net.activities →
        small_first_at (after_d r (change_decision net a kept)) p ≡ small_first_at r p
    unfolding after_d
    first_after_change a p kept below = rw (change_flips net network a kept below, after_change_first r a kept) refl

    -- a pair that is decided
    first_after : (p : ℕ) (small : Bool) → p < length net.pairs → small_first_at (after_d r (pair_decision net p small)) p ≡ small
    unfolding after_d
    first_after p small below =
        rw (pair_flips net network p small below) (get_or-set_at r.small_first p p small true refl (in_first p below))

    first_after_other : (p q : ℕ) (small : Bool) → p < length net.pairs → (q ≡ p → ⊥) →
        small_first_at (after_d r (pair_decision net p small)) q ≡ small_first_at r q
    unfolding after_d
    first_after_other p q small below other = rw (pair_flips net network p small below) (get_or-set_other r.small_first p q small true other)

    kept_after_pair : (p a : ℕ) (small : Bool) → p < length net.pairs →
        kept_at (after_d r (pair_decision net p small)) a ≡ kept_at r a
    unfolding after_d
    kept_after_pair p a small below = rw (pair_flips net network p small below) refl

    -- a decision of a free choice leaves what is locked
    locks_after : KeepsLocked rows r → (d : Decision) → Names net rows d → KeepsLocked rows (after_d r d)
    locks_after locks d (of_change a kept below free is) =
        let unlocked : is_locked_change rows a ≡ false = (free_change_is net rows a free).unlocked in
        subst (λ x. KeepsLocked rows (after_d r x)) (sym is)
        (record {
          kept = λ b locked. kept_after_other a b kept below
              (λ same. both_ways (is_locked_change rows b) (ap (is_locked_change rows) same ∙ unlocked) locked) ∙ locks.kept b locked;
          small_first = λ p locked. first_after_change a p kept below ∙ locks.small_first p locked;
        })
    locks_after locks d (of_pair p small below free is) =
        let unlocked : is_locked_pair rows p ≡ false = (free_pair_is net rows p free).unlocked in
        subst (λ x. KeepsLocked rows (after_d r x)) (sym is)
        (record {
          kept = λ a locked. kept_after_pair p a small below ∙ locks.kept a locked;
          small_first = λ q locked. first_after_other p q small below
              (λ same. both_ways (is_locked_pair rows q) (ap (is_locked_pair rows) same ∙ unlocked) locked) ∙ locks.small_first q locked;
        })

    -- the decision that was set last is there
    now_there : (d : Decision) → Names net rows d → HasDecision net (after_d r d) d
    now_there d (of_change a kept below free is) =
        subst (λ e. HasDecision net (after_d r e) e) (sym is)
        (kept_has (after_d r (change_decision net a kept)) a kept below (kept_after a kept below))
    now_there d (of_pair p small below free is) =
        subst (λ e. HasDecision net (after_d r e) e) (sym is)
        (first_has (after_d r (pair_decision net p small)) p small below (first_after p small below))

    -- and one that was there is still, behind a decision of another choice
    still_there : (d e : Decision) → Names net rows d → Names net rows e → (choice_of e ≡ choice_of d → ⊥) → HasDecision net r d →
        HasDecision net (after_d r e) d
    still_there d e (of_change a kept below free is) (of_change b kept' below' free' is') other h =
        let apart : a ≡ b → ⊥ = λ s. other (ap choice_of is' ∙ change_decides net network b kept' ∙ ap (change_choice net) (sym s)
        ∙ sym (ap choice_of is ∙ change_decides net network a kept)) in
        let before : kept_at r a ≡ kept = has_kept r a kept below (subst (HasDecision net r) is h) in
        subst (λ x. HasDecision net (after_d r x) d) (sym is')
        (subst (HasDecision net (after_d r (change_decision net b kept'))) (sym is)
        (kept_has (after_d r (change_decision net b kept')) a kept below (kept_after_other b a kept' below' apart ∙ before)))
    still_there d e (of_change a kept below free is) (of_pair q small' below' free' is') other h =
        let before : kept_at r a ≡ kept = has_kept r a kept below (subst (HasDecision net r) is h) in
        subst (λ x. HasDecision net (after_d r x) d) (sym is')
        (subst (HasDecision net (after_d r (pair_decision net q small'))) (sym is)
        (kept_has (after_d r (pair_decision net q small')) a kept below (kept_after_pair q a small' below' ∙ before)))
    still_there d e (of_pair p small below free is) (of_change b kept' below' free' is') other h =
        let before : small_first_at r p ≡ small = has_first r p small below (subst (HasDecision net r) is h) in
        subst (λ x. HasDecision net (after_d r x) d) (sym is')
        (subst (HasDecision net (after_d r (change_decision net b kept'))) (sym is)
        (first_has (after_d r (change_decision net b kept')) p small below (first_after_change b p kept' below' ∙ before)))
    still_there d e (of_pair p small below free is) (of_pair q small' below' free' is') other h =
        let apart : p ≡ q → ⊥ = λ s. other (ap choice_of is' ∙ pair_decides net network q small' below' ∙ ap (pair_choice net) (sym s)
        ∙ sym (ap choice_of is ∙ pair_decides net network p small below)) in
        let before : small_first_at r p ≡ small = has_first r p small below (subst (HasDecision net r) is h) in
        subst (λ x. HasDecision net (after_d r x) d) (sym is')
        (subst (HasDecision net (after_d r (pair_decision net q small'))) (sym is)
        (first_has (after_d r (pair_decision net q small')) p small below (first_after_other q p small' below' apart ∙ before)))

  -- A decision is there behind others where it is one of them or was there before, and none of them decides its choice
  -- otherwise.
  pub there_with : (rows : RowsValue) → IsSized net rows → (ds : List Decision) (r : RowsValue) (d : Decision) → DiffersInDecisions rows r →
      Names net rows d → All (λ e. Contains (free_choices_of net rows) (choice_of e)) ds →
      ((e : Decision) → Contains ds e → choice_of e ≡ choice_of d → e ≡ d) → (HasDecision net r d) ⊎ Contains ds d →
      HasDecision net (with_decisions net r ds) d
  unfolding after_d
  there_with rows sized [] r d over named free agree (inl h) = h
  there_with rows sized [] r d over named free agree (inr h) = absurd (omega (arith, h.1))
  there_with rows sized (e ∷ ds) r d over named free agree h =
      let head : Contains (e ∷ ds) e = (0, omega arith, refl) in
      let later : (x : Decision) → Contains ds x → choice_of x ≡ choice_of d → x ≡ d =
      λ x c. agree x (Contains-append_right (e ∷ []) ds x c) in
      let next = there_with rows sized ds (with_flip r (flip_named net e)) d (differs_after rows r (flip_named net e) over) named
      (All-tail (λ x. Contains (free_choices_of net rows) (choice_of x)) e ds free) later in
      elim (cases_Bool (is_same_choice (choice_of e) (choice_of d))) [
        | inl same ↦
            let is : e ≡ d = agree e head (same_choice (choice_of e) (choice_of d) same) in
            next (inl (subst (λ x. HasDecision net (with_flip r (flip_named net x)) d) (sym is) (now_there rows sized r over d named)))
        | inr differs ↦
            let other : choice_of e ≡ choice_of d → ⊥ =
            λ s. both_ways (is_same_choice (choice_of e) (choice_of d)) differs
            (subst (λ c. is_same_choice (choice_of e) c ≡ true) s (same_itself (choice_of e))) in
            let first : Names net rows e = names net rows e (All-head (λ x. Contains (free_choices_of net rows) (choice_of x)) e ds free) in
            elim h [
              | inl before ↦ next (inl (still_there rows sized r over d e named first other before))
              | inr among ↦ elim (in_front e d ds among) [
                | inl is ↦ absurd (other (ap choice_of is))
                | inr behind ↦ next (inr behind)
              ]
            ]
      ]

  -- decisions of free choices leave what is locked
  pub locks_with : (rows : RowsValue) → IsSized net rows → (ds : List Decision) (r : RowsValue) → DiffersInDecisions rows r → KeepsLocked rows r →
      All (λ e. Contains (free_choices_of net rows) (choice_of e)) ds → KeepsLocked rows (with_decisions net r ds)
  unfolding after_d
  locks_with rows sized [] r over locks free = locks
  locks_with rows sized (d ∷ ds) r over locks free =
      locks_with rows sized ds (with_flip r (flip_named net d)) (differs_after rows r (flip_named net d) over)
      (locks_after rows sized r over locks d (names net rows d (All-head (λ x. Contains (free_choices_of net rows) (choice_of x)) d ds free)))
      (All-tail (λ x. Contains (free_choices_of net rows) (choice_of x)) d ds free)

  pub locks_of : (rows : RowsValue) → IsSized net rows → (ds : List Decision) → All (λ e. Contains (free_choices_of net rows) (choice_of e)) ds →
      KeepsLocked rows (with_decisions net rows ds)
  locks_of rows sized ds free = locks_with rows sized ds rows (differs_in_none rows) (keeps_all rows) free

-- of a choice list no two decisions decide one choice
pub one_decides : (net : Net) (rows : RowsValue) (ds : List Decision) → IsChoiceList net rows ds → (d e : Decision) → Contains ds d →
    Contains ds e → choice_of e ≡ choice_of d → e ≡ d
one_decides net rows ds list d e hd he same =
    let at : slice_get ds hd.0 ≡ Some d = slice_get-get_or ds hd.0 d hd.1 ∙ ap Some hd.2 in
    let at' : slice_get ds he.0 ≡ Some e = slice_get-get_or ds he.0 e he.1 ∙ ap Some he.2 in
    let places : he.0 ≡ hd.0 = list.once he.0 hd.0 e d at' at same in
    let there : slice_get ds hd.0 ≡ Some e = subst (λ k. slice_get ds k ≡ Some e) places at' in
    let somes : Some e ≡ Some d = sym there ∙ at in
    cc

-- each decision of a choice list is there with it
pub has_each : (net : Net) → IsNetwork net → (rows : RowsValue) → IsSized net rows → (ds : List Decision) → IsChoiceList net rows ds →
    (d : Decision) → Contains ds d → HasDecision net (with_decisions net rows ds) d
has_each net network rows sized ds list d h =
    there_with net network rows sized ds rows d (differs_in_none rows)
    (names net rows d (All-contains (λ x. Contains (free_choices_of net rows) (choice_of x)) ds d list.free h)) list.free
    (λ e c same. one_decides net rows ds list d e h c same) (inr h)
