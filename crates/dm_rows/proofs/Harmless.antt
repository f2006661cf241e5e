-- A delay, a passed event, a dropped change, a clock, a cancelled event and a lock never make a cycle.
use Rattle.std.proofs.Common.{◌≡◌, ℕ, List, [], ◌∷◌, length, get_or, set, Option, Some, None, Bool, IsTrue, true, false, cond, refl, sym, ap, subst, ◌∙◌, arith, inl, inr, ◌≤◌}
use Rattle.std.specs.Prelude.{is_some, option_map}
use Rattle.std.proofs.Math.ListN.{get_or-eq_default}
use Rattle.std.proofs.lemmas.Bool.{cases_eq, cases_lt}
use Rattle.std.proofs.lemmas.Grind.{get_or-set_at}
use Rattle.std.proofs.lemmas.List.{get_or-set_other}
use Rattle.dm_base.specs.declared.rows.ActKind.{ActKind}
use Rattle.dm_base.specs.declared.rows.ActKind.TheVariants.{Drive, Wait, Turnaround, Change, Headway}
use Rattle.dm_graph.specs.Arcs.{Chain}
use Rattle.dm_network.specs.Net.{Net, activity_at, event_place, activity_place}
use Rattle.dm_network.specs.Held.{arcs_of, HasNoCycleOf}
use Rattle.dm_rows.specs.declared.messages.Change.TheVariants.{EventDelay, ActDelay, Passed, Flipped, Cancelled, Locked, Unlocked}
use Rattle.dm_rows.specs.declared.messages.Flip.TheVariants.{Drop as DropFlip}
use Rattle.dm_rows.specs.declared.messages.Spot.{Spot}
use Rattle.dm_rows.specs.declared.messages.Spot.TheVariants.{Change as AtChange, Pair as AtPair}
use Rattle.dm_rows.specs.declared.messages.Message.TheVariants.{DelayEvent, DelayActivity, Pass, Recall, Keep, Drop, First, Adopt, Now, Cancel, Restore, Lock, Unlock}
use Rattle.dm_rows.specs.Active.{is_active, active_arcs, binds, has_passed, HasNoCycle}
use Rattle.dm_rows.specs.Resolve.{after, after_named, spot_named}
use Rattle.dm_rows.specs.Rows.{RowsValue, IsSized}
use Rattle.dm_rows.specs.Harmless.{NeverMakeCycles}
use Rattle.dm_rows.proofs.Running.{active_is_open, was_active}

-- the head of an active activity has not passed
pub head_is_open : (net : Net) (rows : RowsValue) (a : ℕ) → IsTrue (is_active net rows a) → has_passed rows (activity_at net a).head ≡ false
head_is_open net rows a h = (active_is_open net rows a h).0

-- where each active activity out of an event that has not passed is held, and what is held has no cycle, the rows have none
module _ (net : Net) (rows : RowsValue) (held : ℕ → Bool)
    (each : (a : ℕ) → IsTrue (is_active net rows a) → has_passed rows (activity_at net a).tail ≡ false → IsTrue (held a)) where
  ends_open : (i : ℕ) (chain : List ℕ) (j : ℕ) → has_passed rows i ≡ false → Chain (active_arcs net rows) i chain j → has_passed rows j ≡ false
  ends_open i [] j h c = subst (λ k. has_passed rows k ≡ false) c h
  ends_open i (a ∷ rest) j h c = ends_open (activity_at net a).head rest j (head_is_open net rows a c.0.is_held) c.2

  held_chain : (i : ℕ) (chain : List ℕ) (j : ℕ) → has_passed rows i ≡ false → Chain (active_arcs net rows) i chain j →
      Chain (arcs_of net held) i chain j
  held_chain i [] j h c = c
  held_chain i (a ∷ rest) j h c = (
    record {
      is_arc = c.0.is_arc;
      is_held = each a c.0.is_held (subst (λ k. has_passed rows k ≡ false) (sym c.1) h);
      from_event = c.0.from_event;
      to_event = c.0.to_event;
    },
    c.1,
    held_chain (activity_at net a).head rest j (head_is_open net rows a c.0.is_held) c.2,
  )

  none_of_rows : HasNoCycleOf net held → HasNoCycle net rows
  none_of_rows none [] c = c
  none_of_rows none (a ∷ rest) c =
      none (a ∷ rest) (held_chain (activity_at net a).tail (a ∷ rest) (activity_at net a).tail
      (ends_open (activity_at net a).head rest (activity_at net a).tail (head_is_open net rows a c.0.is_held) c.2) c)

-- a dropped change: what is kept was kept
pub kept_before : (kept : List Bool) (a x : ℕ) → IsTrue (get_or (set kept a false) x true) → IsTrue (get_or kept x true)
kept_before kept a x h =
    elim (cases_eq x a) [
      | inl same ↦ elim (cases_lt x (length kept)) [
        | inl below ↦ let off = get_or-set_at kept a x false true same (omega arith) in cc
        | inr past ↦ get_or-eq_default kept true {n = x} past
      ]
      | inr other ↦ sym (get_or-set_other kept a x false true other) ∙ h
    ]

pub binds_kept : (net : Net) (rows : RowsValue) (kept : List Bool) (kind : ActKind) (pair : Option ℕ) (tail x : ℕ) →
    (IsTrue (get_or kept x true) → IsTrue (get_or rows.kept x true)) → IsTrue (binds net (record rows { kept = kept }) kind pair tail x) →
    IsTrue (binds net rows kind pair tail x)
binds_kept net rows kept Drive pair tail x same h = h
binds_kept net rows kept Wait pair tail x same h = h
binds_kept net rows kept Turnaround pair tail x same h = h
binds_kept net rows kept Change pair tail x same h = same h
binds_kept net rows kept Headway None tail x same h = h
binds_kept net rows kept Headway (Some p) tail x same h = h

pub dropped : (net : Net) (rows : RowsValue) (o : Option ℕ) → HasNoCycle net rows →
    HasNoCycle net (after_named rows (option_map (λ flip. Flipped flip) (option_map (λ a. DropFlip a) o)))
dropped net rows None none = none
dropped net rows (Some a) none =
    let kept : List Bool = set rows.kept a false in
    none_of_rows net (record rows { kept = kept }) (is_active net rows)
    (λ x active unpassed.
    let parts = active_is_open net (record rows { kept = kept }) x active in
    was_active net rows (record rows { kept = kept }) x active (λ h. h) parts.1 parts.2
    (binds_kept net rows kept (activity_at net x).kind (activity_at net x).pair (activity_at net x).tail x (kept_before rows.kept a x)))
    none

-- a passed event: what has not passed had not
pub open_before : (passed : List (Option ℕ)) (i t j : ℕ) → is_some (get_or (set passed i (Some t)) j None) ≡ false →
    is_some (get_or passed j None) ≡ false
open_before passed i t j h =
    elim (cases_eq j i) [
      | inl same ↦ elim (cases_lt j (length passed)) [
        | inl below ↦ let on = ap is_some (get_or-set_at passed i j (Some t) None same (omega arith)) in cc
        | inr past ↦ ap is_some (get_or-eq_default passed None {n = j} past)
      ]
      | inr other ↦ sym (ap is_some (get_or-set_other passed i j (Some t) None other)) ∙ h
    ]

pub first_goes : (before after b : Bool) → before ≡ false → after ≡ false → IsTrue (cond after true b) → IsTrue (cond before true b)
first_goes true after b p q h = refl
first_goes false true b p q h = cc
first_goes false false b p q h = h

pub binds_open : (net : Net) (rows : RowsValue) (passed : List (Option ℕ)) (kind : ActKind) (pair : Option ℕ) (tail x : ℕ) →
    has_passed rows tail ≡ false → is_some (get_or passed tail None) ≡ false → IsTrue (binds net (record rows { passed = passed }) kind pair tail x) →
    IsTrue (binds net rows kind pair tail x)
binds_open net rows passed Drive pair tail x p q h = h
binds_open net rows passed Wait pair tail x p q h = h
binds_open net rows passed Turnaround pair tail x p q h = h
binds_open net rows passed Change pair tail x p q h = h
binds_open net rows passed Headway None tail x p q h = h
binds_open net rows passed Headway (Some n) tail x p q h = first_goes (has_passed rows tail) (is_some (get_or passed tail None)) _ p q h

-- an event that has neither passed nor is cancelled after a pass was not cancelled before it
pub runs_before : (passed : List (Option ℕ)) (cancelled : List Bool) (i t j : ℕ) → length cancelled ≡ length passed →
    is_some (get_or (set passed i (Some t)) j None) ≡ false → get_or (set cancelled i false) j false ≡ false → get_or cancelled j false ≡ false
runs_before passed cancelled i t j size unpassed off =
    elim (cases_eq j i) [
      | inl same ↦ elim (cases_lt j (length passed)) [
        | inl below ↦ let on = ap is_some (get_or-set_at passed i j (Some t) None same (omega arith)) in cc
        | inr past ↦ let beyond : length cancelled ≤ j = omega arith in get_or-eq_default cancelled false {n = j} beyond
      ]
      | inr other ↦ sym (get_or-set_other cancelled i j false false other) ∙ off
    ]

pub passed : (net : Net) (rows : RowsValue) (t : ℕ) (o : Option ℕ) → IsSized net rows → HasNoCycle net rows →
    HasNoCycle net (after_named rows (option_map (λ i. Passed i t) o))
passed net rows t None sized none = none
passed net rows t (Some i) sized none =
    let later : List (Option ℕ) = set rows.passed i (Some t) in
    let running : List Bool = set rows.cancelled i false in
    let after : RowsValue = record rows { passed = later; cancelled = running } in
    let size : length rows.cancelled ≡ length rows.passed = sized.cancelled ∙ sym sized.passed in
    none_of_rows net after (is_active net rows)
    (λ x active unpassed.
    let parts = active_is_open net after x active in
    was_active net rows after x active (open_before rows.passed i t (activity_at net x).head)
    (runs_before rows.passed rows.cancelled i t (activity_at net x).tail size unpassed parts.1)
    (runs_before rows.passed rows.cancelled i t (activity_at net x).head size parts.0 parts.2)
    (binds_open net rows later (activity_at net x).kind (activity_at net x).pair (activity_at net x).tail x
    (open_before rows.passed i t (activity_at net x).tail unpassed) unpassed))
    none

-- a cancelled event: what runs after it ran before
pub ran_before : (cancelled : List Bool) (i j : ℕ) → get_or (set cancelled i true) j false ≡ false → get_or cancelled j false ≡ false
ran_before cancelled i j h =
    elim (cases_eq j i) [
      | inl same ↦ elim (cases_lt j (length cancelled)) [
        | inl below ↦ let on = get_or-set_at cancelled i j true false same (omega arith) in cc
        | inr past ↦ get_or-eq_default cancelled false {n = j} past
      ]
      | inr other ↦ sym (get_or-set_other cancelled i j true false other) ∙ h
    ]

pub event_cancelled : (net : Net) (rows : RowsValue) (o : Option ℕ) → HasNoCycle net rows →
    HasNoCycle net (after_named rows (option_map (λ i. Cancelled i) o))
event_cancelled net rows None none = none
event_cancelled net rows (Some i) none =
    let after : RowsValue = record rows { cancelled = set rows.cancelled i true } in
    none_of_rows net after (is_active net rows)
    (λ x active unpassed.
    let parts = active_is_open net after x active in
    was_active net rows after x active (λ h. h) (ran_before rows.cancelled i (activity_at net x).tail parts.1)
    (ran_before rows.cancelled i (activity_at net x).head parts.2) (λ h. h))
    none

-- locks change nothing that binds
pub choice_locked : (net : Net) (rows : RowsValue) (o : Option Spot) → HasNoCycle net rows →
    HasNoCycle net (after_named rows (option_map (λ spot. Locked spot) o))
choice_locked net rows None none = none
choice_locked net rows (Some (AtChange a)) none = none
choice_locked net rows (Some (AtPair p)) none = none

pub choice_unlocked : (net : Net) (rows : RowsValue) (o : Option Spot) → HasNoCycle net rows →
    HasNoCycle net (after_named rows (option_map (λ spot. Unlocked spot) o))
choice_unlocked net rows None none = none
choice_unlocked net rows (Some (AtChange a)) none = none
choice_unlocked net rows (Some (AtPair p)) none = none

-- delays and the clock change nothing that binds
pub event_delayed : (net : Net) (rows : RowsValue) (d : ℕ) (o : Option ℕ) → HasNoCycle net rows →
    HasNoCycle net (after_named rows (option_map (λ i. EventDelay i d) o))
event_delayed net rows d None none = none
event_delayed net rows d (Some i) none = none

pub activity_delayed : (net : Net) (rows : RowsValue) (d : ℕ) (o : Option ℕ) → HasNoCycle net rows →
    HasNoCycle net (after_named rows (option_map (λ a. ActDelay a d) o))
activity_delayed net rows d None none = none
activity_delayed net rows d (Some a) none = none

pub never_make_cycles : NeverMakeCycles
never_make_cycles net rows (DelayEvent e d) sized harmless none = event_delayed net rows d (event_place net e) none
never_make_cycles net rows (DelayActivity a d) sized harmless none = activity_delayed net rows d (activity_place net a) none
never_make_cycles net rows (Pass e t) sized harmless none = passed net rows t (event_place net e) sized none
never_make_cycles net rows (Drop a) sized harmless none = dropped net rows (activity_place net a) none
never_make_cycles net rows (Now t) sized harmless none = none
never_make_cycles net rows (Cancel e) sized harmless none = event_cancelled net rows (event_place net e) none
never_make_cycles net rows (Lock choice) sized harmless none = choice_locked net rows (spot_named net choice) none
never_make_cycles net rows (Unlock choice) sized harmless none = choice_unlocked net rows (spot_named net choice) none
never_make_cycles net rows (Recall e) sized harmless none = absurd harmless
never_make_cycles net rows (Keep a) sized harmless none = absurd harmless
never_make_cycles net rows (First i j) sized harmless none = absurd harmless
never_make_cycles net rows (Adopt ds) sized harmless none = absurd harmless
never_make_cycles net rows (Restore e) sized harmless none = absurd harmless
