-- Which activities, floors and spans a change leaves as they are.
use Rattle.std.proofs.Common.{◌≡◌, ℕ, zero, suc, ◌+◌, ◌<◌, true, false, List, [], ◌∷◌, length, Option, Some, None, refl, sym, ap, subst, ◌∙◌, ◌⊎◌, inl, inr, arith, fold, slice_index, get_or-set_other}
use Rattle.std.specs.Prelude.{◌↔◌, slice_set, slice_get, is_some, unwrap_or, max}
use Rattle.std.proofs.lemmas.Bool.{cases_eq}
use Rattle.dm_network.specs.Net.{Net, event_at, activity_at, pair_at}
use Rattle.dm_network.specs.Pairs.{IsPaired}
use Rattle.dm_rows.specs.Active.{is_active, IsCycle}
use Rattle.dm_rows.specs.Resolve.{after_change, after_flip}
use Rattle.dm_rows.specs.Rows.{RowsValue, passed_at}
use Rattle.dm_rows.specs.Timetable.{planned_time, floor_of, span_of}
use Rattle.dm_rows.specs.declared.messages.Flip.{Flip}
use Rattle.dm_rows.specs.declared.messages.Flip.TheVariants.{Keep, Drop, First}
use Rattle.dm_rows.specs.declared.messages.Change.{Change}
use Rattle.dm_rows.specs.declared.messages.Change.TheVariants.{EventDelay, ActDelay, Passed, Recalled, Flipped, Adopted, Clock, Cancelled, Restored, Locked, Unlocked}
use Rattle.dm_settle.specs.Constraints.{ConstraintsValue}
use Rattle.dm_live.specs.Live.{LiveValue}
use Rattle.dm_propagate.specs.Engine.{FollowsRows}
use Rattle.dm_propagate.specs.Inside.Changing.{IsTurnRefused}
use Rattle.dm_propagate.specs.Inside.Concern.{IsDecided, IsOfOneBefore, IsDecidedBefore, IsConcerned, MovesFloor, MovesSpan, FollowsBut}
use Rattle.dm_rows.proofs.Alike.{active_alike, standing_leaves, EndsAtPair, flip_keeps_floor, flip_keeps_span, lock_leaves, lock_keeps_floor, lock_keeps_span, pair_ends}

-- a flip leaves every activity but those that it decides about
flip_leaves : (net : Net) (rows : RowsValue) (flip : Flip) (b : ℕ) →
    ((p : ℕ) → (activity_at net b).pair ≡ Some p → ((activity_at net b).tail ≡ (pair_at net p).small) ⊎ ((activity_at net b).tail ≡ (pair_at net p).large)) →
    (is_active net (after_flip rows flip) b ≡ is_active net rows b) ⊎ IsDecided net flip b
flip_leaves net rows (Keep a) b ends =
    elim (cases_eq b a) [
      | inl is ↦ inr is
      | inr ne ↦ inl (active_alike net rows (after_flip rows (Keep a)) b refl refl (get_or-set_other rows.kept a b true true ne) refl (λ p e. refl))
    ]
flip_leaves net rows (Drop a) b ends =
    elim (cases_eq b a) [
      | inl is ↦ inr is
      | inr ne ↦ inl (active_alike net rows (after_flip rows (Drop a)) b refl refl (get_or-set_other rows.kept a b false true ne) refl (λ p e. refl))
    ]
flip_leaves net rows (First p small) b ends = pair_leaves (activity_at net b).pair refl where
  pair_leaves : (pair : Option ℕ) → (activity_at net b).pair ≡ pair →
      (is_active net (after_flip rows (First p small)) b ≡ is_active net rows b) ⊎ IsDecided net (First p small) b
  pair_leaves None none = inl (active_alike net rows (after_flip rows (First p small)) b refl refl refl refl (λ q e. let e' : Some q ≡ None = sym e ∙ none in absurd cc))
  pair_leaves (Some q) some =
      elim (cases_eq q p) [
        | inl is ↦ inr (subst (λ (r : ℕ). ((activity_at net b).tail ≡ (pair_at net r).small) ⊎ ((activity_at net b).tail ≡ (pair_at net r).large)) is (ends q some))
        | inr ne ↦ inl (active_alike net rows (after_flip rows (First p small)) b refl refl refl refl
            (λ r e. let same : r ≡ q = cc in get_or-set_other rows.small_first p r small true (λ at. ne (sym same ∙ at))))
      ]

pub decided_later : (decides : Flip → ℕ → Type 0) (flip : Flip) (flips : List Flip) (n b : ℕ) → IsOfOneBefore decides flips n b →
    IsOfOneBefore decides (flip ∷ flips) (suc n) b
decided_later decides flip flips n b d =
    let lt = d.before in
    record { flip = d.flip; place = suc d.place; before = omega arith; there = d.there; decided = d.decided }

flips_leave : (net : Net) (rows : RowsValue) (flips : List Flip) (b : ℕ) → EndsAtPair net b →
    (is_active net (fold after_flip rows flips) b ≡ is_active net rows b) ⊎ IsDecidedBefore net flips (length flips) b
flips_leave net rows [] b ends = inl refl
flips_leave net rows (flip ∷ flips) b ends =
    elim (flip_leaves net rows flip b ends) [
      | inl same ↦ elim (flips_leave net (after_flip rows flip) flips b ends) [
        | inl later ↦ inl (later ∙ same)
        | inr decided ↦ inr (decided_later (IsDecided net) flip flips (length flips) b decided)
      ]
      | inr decided ↦ inr (record { flip = flip; place = 0; before = omega arith; there = refl; decided = decided })
    ]

-- a change leaves every activity but those that it concerns
pub change_leaves : (net : Net) (rows : RowsValue) (change : Change) (b : ℕ) → EndsAtPair net b →
    (is_active net (after_change rows change) b ≡ is_active net rows b) ⊎ IsConcerned net change b
change_leaves net rows (EventDelay i d) b ends = inl refl
change_leaves net rows (ActDelay a d) b ends = inl refl
change_leaves net rows (Passed i t) b ends =
    standing_leaves net rows i (slice_set rows.passed i (Some t)) (slice_set rows.cancelled i false) b
    (λ j ne. get_or-set_other rows.passed i j (Some t) None ne) (λ j ne. get_or-set_other rows.cancelled i j false false ne)
change_leaves net rows (Recalled i) b ends =
    standing_leaves net rows i (slice_set rows.passed i None) rows.cancelled b
    (λ j ne. get_or-set_other rows.passed i j None None ne) (λ j ne. refl)
change_leaves net rows (Flipped flip) b ends = flip_leaves net rows flip b ends
change_leaves net rows (Adopted flips) b ends = flips_leave net rows flips b ends
change_leaves net rows (Clock t) b ends = inl refl
change_leaves net rows (Cancelled i) b ends =
    standing_leaves net rows i rows.passed (slice_set rows.cancelled i true) b
    (λ j ne. refl) (λ j ne. get_or-set_other rows.cancelled i j true false ne)
change_leaves net rows (Restored i) b ends =
    standing_leaves net rows i rows.passed (slice_set rows.cancelled i false) b
    (λ j ne. refl) (λ j ne. get_or-set_other rows.cancelled i j false false ne)
change_leaves net rows (Locked spot) b ends = inl (lock_leaves net rows spot true b)
change_leaves net rows (Unlocked spot) b ends = inl (lock_leaves net rows spot false b)

flips_keep_floor : (net : Net) (rows : RowsValue) (flips : List Flip) (i : ℕ) → floor_of net (fold after_flip rows flips) i ≡ floor_of net rows i
flips_keep_floor net rows [] i = refl
flips_keep_floor net rows (flip ∷ flips) i = flips_keep_floor net (after_flip rows flip) flips i ∙ flip_keeps_floor net rows flip i

flips_keep_span : (net : Net) (rows : RowsValue) (flips : List Flip) (a : ℕ) → span_of net (fold after_flip rows flips) a ≡ span_of net rows a
flips_keep_span net rows [] a = refl
flips_keep_span net rows (flip ∷ flips) a = flips_keep_span net (after_flip rows flip) flips a ∙ flip_keeps_span net rows flip a

-- a delay leaves the floor of an event that has passed
passed_or_not : (passed : Option ℕ) (x y : ℕ) → (unwrap_or passed x ≡ unwrap_or passed y) ⊎ (is_some passed ≡ false)
passed_or_not None x y = inr refl
passed_or_not (Some t) x y = inl refl

delay_leaves : (net : Net) (rows : RowsValue) (e d i : ℕ) → i ≡ e →
    (floor_of net (after_change rows (EventDelay e d)) i ≡ floor_of net rows i) ⊎ MovesFloor rows (EventDelay e d) i
delay_leaves net rows e d i is =
    elim (passed_or_not (passed_at rows i) (max (planned_time net (after_change rows (EventDelay e d)) i) rows.clock) (max (planned_time net rows i) rows.clock)) [
      | inl same ↦ inl same
      | inr none ↦ inr (is, none)
    ]

-- what a change moves of the rows before it, it moves of those after it, and of no others
moves_alike : (rows : RowsValue) (change : Change) (i : ℕ) → MovesFloor rows change i ↔ MovesFloor (after_change rows change) change i
moves_alike rows (EventDelay e d) i = (λ m. m, λ m. m)
moves_alike rows (ActDelay a d) i = (λ m. m, λ m. m)
moves_alike rows (Passed e t) i = (λ m. m, λ m. m)
moves_alike rows (Recalled e) i = (λ m. m, λ m. m)
moves_alike rows (Flipped flip) i = (λ m. m, λ m. m)
moves_alike rows (Adopted flips) i = (λ m. m, λ m. m)
moves_alike rows (Clock t) i = (λ m. m, λ m. m)
moves_alike rows (Cancelled e) i = (λ m. m, λ m. m)
moves_alike rows (Restored e) i = (λ m. m, λ m. m)
moves_alike rows (Locked spot) i = (λ m. m, λ m. m)
moves_alike rows (Unlocked spot) i = (λ m. m, λ m. m)

floor_leaves : (net : Net) (rows : RowsValue) (change : Change) (i : ℕ) →
    (floor_of net (after_change rows change) i ≡ floor_of net rows i) ⊎ MovesFloor rows change i
floor_leaves net rows (EventDelay e d) i =
    elim (cases_eq i e) [
      | inl is ↦ delay_leaves net rows e d i is
      | inr ne ↦ inl (ap (λ (delay : ℕ). unwrap_or (passed_at rows i) (max ((event_at net i).time + delay) rows.clock)) (get_or-set_other rows.event_delays e i d 0 ne))
    ]
floor_leaves net rows (ActDelay a d) i = inl refl
floor_leaves net rows (Passed e t) i =
    elim (cases_eq i e) [
      | inl is ↦ inr is
      | inr ne ↦ inl (ap (λ (o : Option ℕ). unwrap_or o (max (planned_time net rows i) rows.clock)) (get_or-set_other rows.passed e i (Some t) None ne))
    ]
floor_leaves net rows (Recalled e) i =
    elim (cases_eq i e) [
      | inl is ↦ inr is
      | inr ne ↦ inl (ap (λ (o : Option ℕ). unwrap_or o (max (planned_time net rows i) rows.clock)) (get_or-set_other rows.passed e i None None ne))
    ]
floor_leaves net rows (Flipped flip) i = inl (flip_keeps_floor net rows flip i)
floor_leaves net rows (Adopted flips) i = inl (flips_keep_floor net rows flips i)
floor_leaves net rows (Clock t) i = inr tt
floor_leaves net rows (Cancelled e) i = inl refl
floor_leaves net rows (Restored e) i = inl refl
floor_leaves net rows (Locked spot) i = inl (lock_keeps_floor net rows spot true i)
floor_leaves net rows (Unlocked spot) i = inl (lock_keeps_floor net rows spot false i)

span_leaves : (net : Net) (rows : RowsValue) (change : Change) (a : ℕ) →
    (span_of net (after_change rows change) a ≡ span_of net rows a) ⊎ MovesSpan change a
span_leaves net rows (EventDelay e d) a = inl refl
span_leaves net rows (ActDelay b d) a =
    elim (cases_eq a b) [
      | inl is ↦ inr is
      | inr ne ↦ inl (ap (λ (delay : ℕ). (activity_at net a).lower + delay) (get_or-set_other rows.act_delays b a d 0 ne))
    ]
span_leaves net rows (Passed e t) a = inl refl
span_leaves net rows (Recalled e) a = inl refl
span_leaves net rows (Flipped flip) a = inl (flip_keeps_span net rows flip a)
span_leaves net rows (Adopted flips) a = inl (flips_keep_span net rows flips a)
span_leaves net rows (Clock t) a = inl refl
span_leaves net rows (Cancelled e) a = inl refl
span_leaves net rows (Restored e) a = inl refl
span_leaves net rows (Locked spot) a = inl (lock_keeps_span net rows spot true a)
span_leaves net rows (Unlocked spot) a = inl (lock_keeps_span net rows spot false a)

-- what follows the rows follows those after a change but for what it concerns, and the other way round
module _ (net : Net) (paired : IsPaired net) (rows : RowsValue) (change : Change) (given : ConstraintsValue) where
  pub follows_but_after : FollowsRows net rows given → FollowsBut net (after_change rows change) change given
  follows_but_after f = record {
    held = λ a lt. elim (change_leaves net rows change a (pair_ends net paired a lt)) [ inl same ↦ inl (f.held a lt ∙ sym same) | inr concerned ↦ inr concerned ];
    floors = λ i lt. elim (floor_leaves net rows change i) [ inl same ↦ inl (f.floors i lt ∙ sym same) | inr moves ↦ inr ((moves_alike rows change i).0 moves) ];
    spans = λ a lt. elim (span_leaves net rows change a) [ inl same ↦ inl (f.spans a lt ∙ sym same) | inr moves ↦ inr moves ];
  }

  pub follows_but_before : FollowsBut net (after_change rows change) change given → FollowsBut net rows change given
  follows_but_before f = record {
    held = λ a lt. elim (f.held a lt) [
      | inl is ↦ elim (change_leaves net rows change a (pair_ends net paired a lt)) [ inl same ↦ inl (is ∙ same) | inr concerned ↦ inr concerned ]
      | inr concerned ↦ inr concerned
    ];
    floors = λ i lt. elim (f.floors i lt) [
      | inl is ↦ elim (floor_leaves net rows change i) [ inl same ↦ inl (is ∙ same) | inr moves ↦ inr moves ]
      | inr moves ↦ inr ((moves_alike rows change i).1 moves)
    ];
    spans = λ a lt. elim (f.spans a lt) [
      | inl is ↦ elim (span_leaves net rows change a) [ inl same ↦ inl (is ∙ same) | inr moves ↦ inr moves ]
      | inr moves ↦ inr moves
    ];
  }

-- one flip decides as a list of it alone
pub by_one : (decides : Flip → ℕ → Type 0) (flip : Flip) (b : ℕ) → decides flip b → IsOfOneBefore decides (flip ∷ []) 1 b
by_one decides flip b d = record { flip = flip; place = 0; before = omega arith; there = refl; decided = d }

first_of_one : (decides : Flip → ℕ → Type 0) (flip g : Flip) (k b : ℕ) → k < 1 → slice_get (flip ∷ []) k ≡ Some g → decides g b → decides flip b
first_of_one decides flip g zero b lt there d = let is : g ≡ flip = cc in subst (λ (f : Flip). decides f b) is d
first_of_one decides flip g (suc k) b lt there d = absurd (omega arith)

one_by : (decides : Flip → ℕ → Type 0) (flip : Flip) (b : ℕ) → IsOfOneBefore decides (flip ∷ []) 1 b → decides flip b
one_by decides flip b d = first_of_one decides flip d.flip d.place b d.before d.there d.decided

pub followed_by_one : (net : Net) (rows : RowsValue) (change : Change) (flip : Flip) → change ≡ Flipped flip → (before after : LiveValue) →
    IsTurnRefused net rows (IsDecidedBefore net (flip ∷ []) 1) before after → after.given.floors ≡ before.given.floors →
    FollowsBut net rows change before.given → FollowsBut net rows change after.given
followed_by_one net rows change flip is before after refused floors follows =
    let was : FollowsBut net rows (Flipped flip) before.given = subst (λ (c : Change). FollowsBut net rows c before.given) is follows in
    let now : FollowsBut net rows (Flipped flip) after.given =
    record {
      held = λ a lt. elim (refused.held a lt (elim (was.held a lt) [ inl same ↦ inl same | inr d ↦ inr (by_one (IsDecided net) flip a d) ])) [
        | inl same ↦ inl same
        | inr d ↦ inr (one_by (IsDecided net) flip a d)
      ];
      floors = λ i lt. elim (was.floors i lt) [ inl same ↦ inl (ap (λ (xs : List ℕ). slice_index xs i) floors ∙ same) | inr never ↦ absurd never ];
      spans = λ a lt. elim (was.spans a lt) [ inl same ↦ inl (ap (λ (xs : List ℕ). slice_index xs a) refused.spans ∙ same) | inr never ↦ absurd never ];
    } in
    subst (λ (c : Change). FollowsBut net rows c after.given) (sym is) now

pub cycle_of_one : (net : Net) (rows : RowsValue) (change : Change) (flip : Flip) → change ≡ Flipped flip → (before after : LiveValue) →
    IsTurnRefused net rows (IsDecidedBefore net (flip ∷ []) 1) before after → FollowsBut net rows change before.given →
    IsCycle net rows after.order.cycle
cycle_of_one net rows change flip is before after refused follows =
    let was : FollowsBut net rows (Flipped flip) before.given = subst (λ (c : Change). FollowsBut net rows c before.given) is follows in
    refused.cycle (λ a lt. elim (was.held a lt) [ inl same ↦ inl same | inr d ↦ inr (by_one (IsDecided net) flip a d) ])

pub followed_by_all : (net : Net) (rows : RowsValue) (flips : List Flip) (before after : LiveValue) →
    IsTurnRefused net rows (IsDecidedBefore net flips (length flips)) before after → after.given.floors ≡ before.given.floors →
    FollowsBut net rows (Adopted flips) before.given → FollowsBut net rows (Adopted flips) after.given
followed_by_all net rows flips before after refused floors follows = record {
  held = λ a lt. refused.held a lt (follows.held a lt);
  floors = λ i lt. elim (follows.floors i lt) [ inl same ↦ inl (ap (λ (xs : List ℕ). slice_index xs i) floors ∙ same) | inr never ↦ absurd never ];
  spans = λ a lt. elim (follows.spans a lt) [ inl same ↦ inl (ap (λ (xs : List ℕ). slice_index xs a) refused.spans ∙ same) | inr never ↦ absurd never ];
}
