-- What passes of events, delays, clocks, cancelled events and locks do to the active activities.
use Rattle.std.proofs.Common.{◌≡◌, ◌≢◌, ℕ, ◌<◌, Bool, true, false, cond, List, [], ◌∷◌, length, Option, Some, None, refl, sym, ap, ◌∙◌, ◌⊎◌, inl, inr, get_or-set_same, get_or-set_other}
use Rattle.std.specs.Prelude.{slice_set, is_some}
use Rattle.std.proofs.lemmas.Bool.{cases_eq}
use Rattle.dm_base.specs.declared.rows.ActKind.{ActKind}
use Rattle.dm_base.specs.declared.rows.ActKind.TheVariants.{Drive, Wait, Turnaround, Change as ChangeKind, Headway}
use Rattle.dm_graph.specs.Arcs.{Chain}
use Rattle.dm_network.specs.Net.{Net, activity_at}
use Rattle.dm_rows.specs.Active.{is_active, active_arcs, binds, has_passed, has_cancelled_end, HasNoCycle}
use Rattle.dm_rows.specs.Resolve.{after_change}
use Rattle.dm_rows.specs.Rows.{RowsValue, passed_at}
use Rattle.dm_rows.specs.Touch.{TellsTouched}
use Rattle.dm_rows.specs.declared.messages.Change.{Change}
use Rattle.dm_rows.specs.declared.messages.Change.TheVariants.{EventDelay, ActDelay, Passed, Recalled, Flipped, Adopted, Clock, Cancelled, Restored, Locked, Unlocked}
use Rattle.dm_rows.proofs.AsGraph.{head_is_free}
use Rattle.dm_rows.proofs.Alike.{standing_leaves}
use Rattle.dm_rows.proofs.Harmless.{event_cancelled, choice_locked, choice_unlocked}
use Rattle.dm_rows.proofs.Running.{active_is_open, active_runs, both_run, cleared}

-- what binds still binds where its tail has passed
binds_behind : (net : Net) (rows : RowsValue) (passed : List (Option ℕ)) (kind : ActKind) (pair : Option ℕ) (tail a : ℕ) →
    has_passed (record rows { passed = passed }) tail ≡ true → binds net rows kind pair tail a ≡ true →
    binds net (record rows { passed = passed }) kind pair tail a ≡ true
binds_behind net rows passed Drive pair tail a p h = h
binds_behind net rows passed Wait pair tail a p h = h
binds_behind net rows passed Turnaround pair tail a p h = h
binds_behind net rows passed ChangeKind pair tail a p h = h
binds_behind net rows passed Headway None tail a p h = h
binds_behind net rows passed Headway (Some n) tail a p h = rw p refl

unless : (before after b c : Bool) → after ≡ before → (b ≡ true → c ≡ true) → cond before false b ≡ true → cond after false c ≡ true
unless true after b c same to h = cc
unless false after b c same to h = rw same (to h)

module _ (net : Net) (rows : RowsValue) (i t : ℕ) (is_event : i < length rows.passed) where
  abbrev later : RowsValue
  later = record rows { passed = slice_set rows.passed i (Some t); cancelled = slice_set rows.cancelled i false }

  leaves : (a : ℕ) → (is_active net later a ≡ is_active net rows a) ⊎ (((activity_at net a).head ≡ i) ⊎ ((activity_at net a).tail ≡ i))
  leaves a =
      standing_leaves net rows i (slice_set rows.passed i (Some t)) (slice_set rows.cancelled i false) a
      (λ j ne. get_or-set_other rows.passed i j (Some t) None ne) (λ j ne. get_or-set_other rows.cancelled i j false false ne)

  pub is_passed : passed_at later i ≡ Some t
  is_passed = get_or-set_same rows.passed i (Some t) None is_event

  pub enters_no_passed : (a : ℕ) → is_active net later a ≡ true → (activity_at net a).head ≢ i
  enters_no_passed a active is =
      let free : passed_at later i ≡ None = ap (passed_at later) (sym is) ∙ head_is_free net later a active in
      let here = is_passed in
      cc

  -- an activity that was active and is no more leads into the event
  pub pass_ends : (a : ℕ) → is_active net rows a ≡ true → is_active net later a ≡ false → (activity_at net a).head ≡ i
  pass_ends a was now =
      elim (leaves a) [
        | inl same ↦ absurd cc
        | inr leads ↦ elim leads [
          | inl head ↦ head
          | inr tail ↦ elim (cases_eq (activity_at net a).head i) [
            | inl head ↦ head
            | inr other ↦
                let behind : has_passed later (activity_at net a).tail ≡ true = ap (has_passed later) tail ∙ ap is_some is_passed in
                let open_still : has_passed later (activity_at net a).head ≡ has_passed rows (activity_at net a).head =
                ap is_some (get_or-set_other rows.passed i (activity_at net a).head (Some t) None other) in
                let was_open = active_is_open net rows a was in
                let runs_later : has_cancelled_end net later a ≡ false =
                both_run _ _ (cleared rows.cancelled i (activity_at net a).tail was_open.1) (cleared rows.cancelled i (activity_at net a).head was_open.2) in
                let still : is_active net later a ≡ true =
                active_runs net later a runs_later
                ∙ unless (has_passed rows (activity_at net a).head) (has_passed later (activity_at net a).head)
                (binds net rows (activity_at net a).kind (activity_at net a).pair (activity_at net a).tail a)
                (binds net later (activity_at net a).kind (activity_at net a).pair (activity_at net a).tail a)
                open_still
                (binds_behind net rows (slice_set rows.passed i (Some t)) (activity_at net a).kind (activity_at net a).pair (activity_at net a).tail a behind)
                (sym (active_runs net rows a (both_run _ _ was_open.1 was_open.2)) ∙ was) in
                absurd cc
          ]
        ]
      ]

  -- an activity that is active and was not leads out of it
  pub pass_begins : (a : ℕ) → is_active net rows a ≡ false → is_active net later a ≡ true → (activity_at net a).tail ≡ i
  pass_begins a was now =
      elim (leaves a) [
        | inl same ↦ absurd cc
        | inr leads ↦ elim leads [ inl head ↦ absurd (enters_no_passed a now head) | inr tail ↦ tail ]
      ]

  chain_before : (j : ℕ) (chain : List ℕ) (k : ℕ) → j ≢ i → Chain (active_arcs net later) j chain k → Chain (active_arcs net rows) j chain k
  chain_before j [] k ne c = c
  chain_before j (a ∷ rest) k ne c = (
    record {
      is_arc = c.0.is_arc;
      is_held = elim (leaves a) [
        | inl same ↦ sym same ∙ c.0.is_held
        | inr leads ↦ elim leads [ inl head ↦ absurd (enters_no_passed a c.0.is_held head) | inr tail ↦ absurd (ne (sym c.1 ∙ tail)) ]
      ];
      from_event = c.0.from_event;
      to_event = c.0.to_event;
    },
    c.1,
    chain_before (activity_at net a).head rest k (enters_no_passed a c.0.is_held) c.2,
  )

  chain_ends : (j : ℕ) (chain : List ℕ) (k : ℕ) → j ≢ i → Chain (active_arcs net later) j chain k → k ≢ i
  chain_ends j [] k ne c = λ is. ne (c ∙ is)
  chain_ends j (a ∷ rest) k ne c = chain_ends (activity_at net a).head rest k (enters_no_passed a c.0.is_held) c.2

  passing_makes_no_cycle : HasNoCycle net rows → HasNoCycle net later
  passing_makes_no_cycle none [] c = c
  passing_makes_no_cycle none (a ∷ rest) c =
      none (a ∷ rest) (chain_before (activity_at net a).tail (a ∷ rest) (activity_at net a).tail
      (chain_ends (activity_at net a).head rest (activity_at net a).tail (enters_no_passed a c.0.is_held) c.2) c)

-- these changes make no cycle
pub harmless : (net : Net) (rows : RowsValue) (change : Change) → TellsTouched change →
    ((i t : ℕ) → change ≡ Passed i t → i < length rows.passed) → HasNoCycle net rows → HasNoCycle net (after_change rows change)
harmless net rows (EventDelay i d) kind event none = none
harmless net rows (ActDelay a d) kind event none = none
harmless net rows (Passed i t) kind event none = passing_makes_no_cycle net rows i t (event i t refl) none
harmless net rows (Recalled i) kind event none = absurd kind
harmless net rows (Flipped flip) kind event none = absurd kind
harmless net rows (Adopted flips) kind event none = absurd kind
harmless net rows (Clock t) kind event none = none
harmless net rows (Cancelled i) kind event none = event_cancelled net rows (Some i) none
harmless net rows (Restored i) kind event none = absurd kind
harmless net rows (Locked spot) kind event none = choice_locked net rows (Some spot) none
harmless net rows (Unlocked spot) kind event none = choice_unlocked net rows (Some spot) none
