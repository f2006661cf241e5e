-- A message is refused at once for one cause alone.
use Rattle.std.proofs.Common.{◌≡◌, ℕ, Bool, List, Option, Some, None, true, false, refl, sym, ap, subst, ◌∙◌, inl, inr, arith}
use Rattle.std.specs.Prelude.{IsSome, slice_get}
use Rattle.std.proofs.lemmas.Bool.{cases_lt, or_parts}
use Rattle.std.specs.Option.{option_and_then, IsSomeAnd}
use Rattle.dm_base.specs.declared.limits.TheConstants.{DELAY, PASSED_TIME}
use Rattle.dm_network.specs.Pairs.{pair_place}
use Rattle.dm_rows.specs.Resolve.{named_pair}
use Rattle.dm_base.specs.declared.ids.EventId.{EventId}
use Rattle.dm_base.specs.declared.ids.ActId.{ActId}
use Rattle.dm_network.specs.Net.{Net, event_at, activity_at, event_place, activity_place, is_change}
use Rattle.dm_rows.specs.declared.messages.Decision.{Decision}
use Rattle.dm_rows.specs.declared.messages.Decision.TheVariants as decision
use Rattle.dm_rows.specs.declared.messages.Choice.{Choice}
use Rattle.dm_rows.specs.declared.messages.Choice.TheVariants.{Change as ChangeOf, Pair as PairOf}
use Rattle.dm_rows.specs.declared.messages.Message.{Message}
use Rattle.dm_rows.specs.declared.messages.Message.TheVariants as message
use Rattle.dm_rows.specs.declared.messages.Refusal.{Refusal}
use Rattle.dm_rows.specs.declared.messages.Refusal.TheVariants.{Range, UnknownEvent, UnknownActivity, UnknownChange, UnknownPair, Passed, NotPassed, Cancelled, NotCancelled, Locked, NotLocked, Back}
use Rattle.dm_rows.specs.Rows.{RowsValue, passed_at, is_cancelled, is_locked_change, is_locked_pair}
use Rattle.dm_rows.specs.Sides.{sorted_choice}
use Rattle.dm_rows.specs.Refuse.{RefusesAtOnce, RefusesNumberFor, RefusesDelayOf, RefusesRecall, RefusesClock, RefusesChange, RefusesFirst, RefusesCancel, RefusesRestore, RefusesLock, RefusesUnlock, RefusesUnlockChange, RefusesUnlockPair, RefusesDecision, RefusesSome, HeadHasPassed, passed_time}

some_none : {A B : Type 0} {x : A} {o : Option A} → o ≡ Some x → o ≡ None → B
some_none p q = absurd (let e : _ = sym p ∙ q in cc)

some_one : {A : Type 0} (o : Option A) (x y : A) → o ≡ Some x → o ≡ Some y → x ≡ y
some_one o x y p q = let e : Some x ≡ Some y = sym p ∙ q in cc

is_some_none : {A B : Type 0} (o : Option A) → IsSome o → o ≡ None → B
is_some_none None some e = absurd (let f : false ≡ true = some in cc)
is_some_none (Some x) some e = absurd (let f : Some x ≡ None = e in cc)

passed_one : (e f : EventId) (t u : ℕ) → e ≡ f → t ≡ u → Passed e t ≡ Passed f u
passed_one e f t u p q = cc

-- ---- what is found

found : {B : Type 0} (o : Option ℕ) (P : ℕ → Type 0) → IsSomeAnd o P → ((x : ℕ) → o ≡ Some x → P x → B) → B
found None P h then = absurd h
found (Some x) P h then = then x refl h

some_is : {B : Type 0} (o : Option ℕ) → IsSome o → ((x : ℕ) → o ≡ Some x → B) → B
some_is None some then = absurd (let f : false ≡ true = some in cc)
some_is (Some x) some then = then x refl

then_parts : {B : Type 0} (f : ℕ → Option ℕ) (o : Option ℕ) (t : ℕ) → option_and_then f o ≡ Some t → ((x : ℕ) → o ≡ Some x → f x ≡ Some t → B) → B
then_parts f None t h then = absurd (let e : None ≡ Some t = h in cc)
then_parts f (Some x) t h then = then x refl h

-- ---- one cause after the other

abbrev place_cause : Option ℕ → Refusal → (ℕ → Option Refusal) → Option Refusal
place_cause None unknown rest = Some unknown
place_cause (Some x) unknown rest = rest x

abbrev kind_cause : Bool → ActId → Option Refusal → Option Refusal
kind_cause false a rest = Some (UnknownChange a)
kind_cause true a rest = rest

abbrev passed_cause : Option ℕ → EventId → Option Refusal → Option Refusal
passed_cause (Some t) e rest = Some (Passed e t)
passed_cause None e rest = rest

abbrev cancelled_cause : Bool → EventId → Option Refusal → Option Refusal
cancelled_cause true e rest = Some (Cancelled e)
cancelled_cause false e rest = rest

abbrev locked_cause : Bool → Choice → Option Refusal
locked_cause true c = Some (Locked c)
locked_cause false c = None

abbrev unlocked_cause : Bool → Choice → Option Refusal
unlocked_cause false c = Some (NotLocked c)
unlocked_cause true c = None

-- whatever refuses is this one
one_by : (o : Option Refusal) (r s : Refusal) → o ≡ Some r → o ≡ Some s → r ≡ s
one_by o r s p q = some_one o r s p q

module _ (net : Net) (rows : RowsValue) where
  not_passed_unless : (e : EventId) (t : ℕ) {B : Type 0} → passed_time net rows e ≡ Some t → event_place net e ≡ None → B
  not_passed_unless e t p none = some_none p (ap (option_and_then (passed_at rows)) none)

  number_one : (limit : ℕ) (e : EventId) (n : ℕ) (r s : Refusal) → RefusesNumberFor net rows limit e n r → RefusesNumberFor net rows limit e n s → r ≡ s
  number_one limit e n (Range v) (Range w) p q = ap Range (p.1 ∙ sym q.1)
  number_one limit e n (Range v) (UnknownEvent u) p q = absurd (let a = p.0 in let b = q.0 in omega arith)
  number_one limit e n (Range v) (Passed f t) p q = absurd (let a = p.0 in let b = q.0 in omega arith)
  number_one limit e n (Range v) s p q = absurd q
  number_one limit e n (UnknownEvent u) (Range w) p q = absurd (let a = p.0 in let b = q.0 in omega arith)
  number_one limit e n (UnknownEvent u) (UnknownEvent w) p q = ap UnknownEvent (p.2 ∙ sym q.2)
  number_one limit e n (UnknownEvent u) (Passed f t) p q = not_passed_unless e t q.1 p.1
  number_one limit e n (UnknownEvent u) s p q = absurd q
  number_one limit e n (Passed f t) (Range w) p q = absurd (let a = p.0 in let b = q.0 in omega arith)
  number_one limit e n (Passed f t) (UnknownEvent w) p q = not_passed_unless e t p.1 q.1
  number_one limit e n (Passed f t) (Passed g u) p q = passed_one f g t u (p.2 ∙ sym q.2) (some_one (passed_time net rows e) t u p.1 q.1)
  number_one limit e n (Passed f t) s p q = absurd q
  number_one limit e n r s p q = absurd p

  head_one : (x : ℕ) (e f : EventId) (t u : ℕ) → HeadHasPassed net rows x e t → HeadHasPassed net rows x f u → Passed e t ≡ Passed f u
  head_one x e f t u p q = passed_one e f t u (p.0 ∙ sym q.0) (some_one (passed_at rows (activity_at net x).head) t u p.1 q.1)

  some_and_none : {B : Type 0} (P : ℕ → Type 0) (o : Option ℕ) → IsSomeAnd o P → o ≡ None → B
  some_and_none P None p e = absurd p
  some_and_none P (Some x) p e = absurd (let f : Some x ≡ None = e in cc)

  delay_heads : (o : Option ℕ) (e f : EventId) (t u : ℕ) → IsSomeAnd o (λ x. HeadHasPassed net rows x e t) → IsSomeAnd o (λ x. HeadHasPassed net rows x f u) → Passed e t ≡ Passed f u
  delay_heads (Some x) e f t u p q = head_one x e f t u p q
  delay_heads None e f t u p q = absurd p

  delay_one : (a : ActId) (d : ℕ) (r s : Refusal) → RefusesDelayOf net rows a d r → RefusesDelayOf net rows a d s → r ≡ s
  delay_one a d (Range v) (Range w) p q = ap Range (p.1 ∙ sym q.1)
  delay_one a d (Range v) (UnknownActivity u) p q = absurd (let x = p.0 in let y = q.0 in omega arith)
  delay_one a d (Range v) (Passed f t) p q = absurd (let x = p.0 in let y = q.0 in omega arith)
  delay_one a d (Range v) s p q = absurd q
  delay_one a d (UnknownActivity u) (Range w) p q = absurd (let x = p.0 in let y = q.0 in omega arith)
  delay_one a d (UnknownActivity u) (UnknownActivity w) p q = ap UnknownActivity (p.2 ∙ sym q.2)
  delay_one a d (UnknownActivity u) (Passed f t) p q = some_and_none _ (activity_place net a) q.1 p.1
  delay_one a d (UnknownActivity u) s p q = absurd q
  delay_one a d (Passed f t) (Range w) p q = absurd (let x = p.0 in let y = q.0 in omega arith)
  delay_one a d (Passed f t) (UnknownActivity w) p q = some_and_none _ (activity_place net a) p.1 q.1
  delay_one a d (Passed f t) (Passed g u) p q = delay_heads (activity_place net a) f g t u p.1 q.1
  delay_one a d (Passed f t) s p q = absurd q
  delay_one a d r s p q = absurd p

  recall_one : (e : EventId) (r s : Refusal) → RefusesRecall net rows e r → RefusesRecall net rows e s → r ≡ s
  recall_one e (UnknownEvent u) (UnknownEvent w) p q = ap UnknownEvent (p.1 ∙ sym q.1)
  recall_one e (UnknownEvent u) (NotPassed w) p q = is_some_none (event_place net e) q.0 p.0
  recall_one e (UnknownEvent u) s p q = absurd q
  recall_one e (NotPassed u) (UnknownEvent w) p q = is_some_none (event_place net e) p.0 q.0
  recall_one e (NotPassed u) (NotPassed w) p q = ap NotPassed (p.2 ∙ sym q.2)
  recall_one e (NotPassed u) s p q = absurd q
  recall_one e r s p q = absurd p

  clock_one : (t : ℕ) (r s : Refusal) → RefusesClock rows t r → RefusesClock rows t s → r ≡ s
  clock_one t (Range v) (Range w) p q = ap Range (p.1 ∙ sym q.1)
  clock_one t (Range v) (Back c) p q = absurd (let x = p.0 in let y = q.0 in omega arith)
  clock_one t (Range v) s p q = absurd q
  clock_one t (Back c) (Range w) p q = absurd (let x = p.0 in let y = q.0 in omega arith)
  clock_one t (Back c) (Back d) p q = ap Back (p.2 ∙ sym q.2)
  clock_one t (Back c) s p q = absurd q
  clock_one t r s p q = absurd p

  -- ---- a change

  abbrev change_at_cause : ActId → ℕ → Option Refusal
  change_at_cause a x =
      let act = activity_at net x in
      kind_cause (is_change act.kind) a
      (passed_cause (passed_at rows act.head) (event_at net act.head).id
      (cancelled_cause (is_cancelled rows act.tail) (event_at net act.tail).id
      (cancelled_cause (is_cancelled rows act.head) (event_at net act.head).id
      (locked_cause (is_locked_change rows x) (ChangeOf a)))))

  abbrev change_cause : ActId → Option Refusal
  change_cause a = place_cause (activity_place net a) (UnknownActivity a) (change_at_cause a)

  change_is : (a : ActId) (r : Refusal) → RefusesChange net rows a r → change_cause a ≡ Some r
  change_is a (UnknownActivity u) p = rw (p.0, p.1) refl
  change_is a (UnknownChange u) p = found (activity_place net a) _ p.0 (λ x is f. rw (is, f, p.1) refl)
  change_is a (Passed e t) p = found (activity_place net a) _ p (λ x is f. rw (is, f.0, f.1.1, f.1.0) refl)
  change_is a (Cancelled e) p =
      found (activity_place net a) _ p
      (λ x is f. elim f.1 [
        | inl l ↦ rw (is, f.0.0, f.0.1, l.0, l.1) refl
        | inr r ↦ rw (is, f.0.0, f.0.1, r.0, r.1, r.2) refl
      ])
  change_is a (Locked c) p =
      found (activity_place net a) _ p.0
      (λ x is f.
      let ends = or_parts (is_cancelled rows (activity_at net x).tail) (is_cancelled rows (activity_at net x).head) f.1 in
      rw (is, f.0.0, f.0.1, ends.0, ends.1, f.2, p.1) refl)
  change_is a r p = absurd p

  change_one : (a : ActId) (r s : Refusal) → RefusesChange net rows a r → RefusesChange net rows a s → r ≡ s
  change_one a r s p q = one_by (change_cause a) r s (change_is a r p) (change_is a s q)

  -- ---- a pair

  abbrev pair_cause : EventId → EventId → (ℕ → ℕ → ℕ → Option Refusal) → Option Refusal
  pair_cause i j rest =
      place_cause (event_place net i) (UnknownEvent i)
      (λ x. place_cause (event_place net j) (UnknownEvent j)
      (λ y. place_cause (pair_place net x y) (UnknownPair i j) (λ p. rest p x y)))

  abbrev first_at_cause : EventId → EventId → ℕ → ℕ → ℕ → Option Refusal
  first_at_cause i j p x y =
      passed_cause (passed_at rows x) i (passed_cause (passed_at rows y) j
      (cancelled_cause (is_cancelled rows x) (event_at net x).id (cancelled_cause (is_cancelled rows y) (event_at net y).id
      (locked_cause (is_locked_pair rows p) (sorted_choice (PairOf i j))))))

  -- the places of two events that form a pair
  named_is : {B : Type 0} (i j : EventId) (p : ℕ) → named_pair net i j ≡ Some p →
      ((x y : ℕ) → event_place net i ≡ Some x → event_place net j ≡ Some y → pair_place net x y ≡ Some p → B) → B
  named_is i j p h then =
      then_parts (λ x. option_and_then (λ y. pair_place net x y) (event_place net j)) (event_place net i) p h
      (λ x first g. then_parts (λ y. pair_place net x y) (event_place net j) p g (λ y second pair. then x y first second pair))

  no_pair : (i j : EventId) (x y : ℕ) → event_place net i ≡ Some x → event_place net j ≡ Some y → named_pair net i j ≡ None → pair_place net x y ≡ None
  no_pair i j x y first second none = let named : named_pair net i j ≡ pair_place net x y = rw (first, second) refl in sym named ∙ none

  at_place : (e : EventId) (x : ℕ) (o : Option ℕ) → event_place net e ≡ Some x → passed_time net rows e ≡ o → passed_at rows x ≡ o
  at_place e x o there is = let named : passed_time net rows e ≡ passed_at rows x = rw there refl in sym named ∙ is

  first_is : (i j : EventId) (r : Refusal) → RefusesFirst net rows i j r → pair_cause i j (first_at_cause i j) ≡ Some r
  first_is i j (UnknownEvent u) h =
      elim h [
        | inl l ↦ rw (l.0, l.1) refl
        | inr r ↦ some_is (event_place net i) r.0 (λ x is. rw (is, r.1, r.2) refl)
      ]
  first_is i j (UnknownPair u v) h =
      some_is (event_place net i) h.0
      (λ x first. some_is (event_place net j) h.1
      (λ y second. let none = no_pair i j x y first second h.2 in rw (first, second, none, h.3, h.4) refl))
  first_is i j (Passed e t) h =
      some_is (named_pair net i j) h.0
      (λ p named. named_is i j p named
      (λ x y first second pair. elim h.1 [
        | inl l ↦ let one = at_place i x (Some t) first l.0 in rw (first, second, pair, one, l.1) refl
        | inr r ↦
            let one = at_place i x None first r.0 in
            let other = at_place j y (Some t) second r.1 in
            rw (first, second, pair, one, other, r.2) refl
      ]))
  first_is i j (Cancelled e) h =
      found (event_place net i) _ h
      (λ x first f. found (event_place net j) _ f
      (λ y second g. found (pair_place net x y) _ g
      (λ p pair k. elim k.1 [
        | inl l ↦ rw (first, second, pair, k.0.0, k.0.1, l.0, l.1) refl
        | inr r ↦ rw (first, second, pair, k.0.0, k.0.1, r.0, r.1, r.2) refl
      ])))
  first_is i j (Locked c) h =
      found (event_place net i) _ h.0
      (λ x first f. found (event_place net j) _ f
      (λ y second g. found (pair_place net x y) _ g
      (λ p pair k. rw (first, second, pair, k.0.0, k.0.1, k.1, k.2, k.3, h.1) refl)))
  first_is i j r h = absurd h

  first_one : (i j : EventId) (r s : Refusal) → RefusesFirst net rows i j r → RefusesFirst net rows i j s → r ≡ s
  first_one i j r s p q = one_by (pair_cause i j (first_at_cause i j)) r s (first_is i j r p) (first_is i j s q)

  -- ---- an event that is cancelled or restored

  abbrev cancel_cause : EventId → Option Refusal
  cancel_cause e = place_cause (event_place net e) (UnknownEvent e) (λ x. passed_cause (passed_at rows x) e (cancelled_cause (is_cancelled rows x) e None))

  cancel_is : (e : EventId) (r : Refusal) → RefusesCancel net rows e r → cancel_cause e ≡ Some r
  cancel_is e (UnknownEvent u) p = rw (p.0, p.1) refl
  cancel_is e (Passed f t) p = then_parts (passed_at rows) (event_place net e) t p.0 (λ x is passed. rw (is, passed, p.1) refl)
  cancel_is e (Cancelled u) p = found (event_place net e) _ p.0 (λ x is f. rw (is, f.0, f.1, p.1) refl)
  cancel_is e r p = absurd p

  cancel_one : (e : EventId) (r s : Refusal) → RefusesCancel net rows e r → RefusesCancel net rows e s → r ≡ s
  cancel_one e r s p q = one_by (cancel_cause e) r s (cancel_is e r p) (cancel_is e s q)

  abbrev restored_cause : Bool → EventId → Option Refusal
  restored_cause true e = None
  restored_cause false e = Some (NotCancelled e)

  abbrev restore_cause : EventId → Option Refusal
  restore_cause e = place_cause (event_place net e) (UnknownEvent e) (λ x. restored_cause (is_cancelled rows x) e)

  restore_is : (e : EventId) (r : Refusal) → RefusesRestore net rows e r → restore_cause e ≡ Some r
  restore_is e (UnknownEvent u) p = rw (p.0, p.1) refl
  restore_is e (NotCancelled u) p = found (event_place net e) _ p.0 (λ x is f. rw (is, f, p.1) refl)
  restore_is e r p = absurd p

  restore_one : (e : EventId) (r s : Refusal) → RefusesRestore net rows e r → RefusesRestore net rows e s → r ≡ s
  restore_one e r s p q = one_by (restore_cause e) r s (restore_is e r p) (restore_is e s q)

  -- ---- a choice that is locked or unlocked

  lock_one : (c : Choice) (r s : Refusal) → RefusesLock net rows c r → RefusesLock net rows c s → r ≡ s
  lock_one (ChangeOf a) r s p q = change_one a r s p q
  lock_one (PairOf i j) r s p q = first_one i j r s p q

  abbrev unlock_change_cause : ActId → Option Refusal
  unlock_change_cause a =
      place_cause (activity_place net a) (UnknownActivity a)
      (λ x. kind_cause (is_change (activity_at net x).kind) a (unlocked_cause (is_locked_change rows x) (ChangeOf a)))

  unlock_change_is : (a : ActId) (r : Refusal) → RefusesUnlockChange net rows a r → unlock_change_cause a ≡ Some r
  unlock_change_is a (UnknownActivity u) p = rw (p.0, p.1) refl
  unlock_change_is a (UnknownChange u) p = found (activity_place net a) _ p.0 (λ x is f. rw (is, f, p.1) refl)
  unlock_change_is a (NotLocked c) p = found (activity_place net a) _ p.0 (λ x is f. rw (is, f.0, f.1, p.1) refl)
  unlock_change_is a r p = absurd p

  abbrev unlock_pair_cause : EventId → EventId → Option Refusal
  unlock_pair_cause i j = pair_cause i j (λ p x y. unlocked_cause (is_locked_pair rows p) (sorted_choice (PairOf i j)))

  unlock_pair_is : (i j : EventId) (r : Refusal) → RefusesUnlockPair net rows i j r → unlock_pair_cause i j ≡ Some r
  unlock_pair_is i j (UnknownEvent u) h =
      elim h [
        | inl l ↦ rw (l.0, l.1) refl
        | inr r ↦ some_is (event_place net i) r.0 (λ x is. rw (is, r.1, r.2) refl)
      ]
  unlock_pair_is i j (UnknownPair u v) h =
      some_is (event_place net i) h.0
      (λ x first. some_is (event_place net j) h.1
      (λ y second. let none = no_pair i j x y first second h.2 in rw (first, second, none, h.3, h.4) refl))
  unlock_pair_is i j (NotLocked c) h =
      found (named_pair net i j) _ h.0
      (λ p named f. named_is i j p named
      (λ x y first second pair. rw (first, second, pair, f, h.1) refl))
  unlock_pair_is i j r h = absurd h

  unlock_one : (c : Choice) (r s : Refusal) → RefusesUnlock net rows c r → RefusesUnlock net rows c s → r ≡ s
  unlock_one (ChangeOf a) r s p q = one_by (unlock_change_cause a) r s (unlock_change_is a r p) (unlock_change_is a s q)
  unlock_one (PairOf i j) r s p q = one_by (unlock_pair_cause i j) r s (unlock_pair_is i j r p) (unlock_pair_is i j s q)

  -- ---- a list of decisions, by the first that is refused

  decision_one : (d : Decision) (r s : Refusal) → RefusesDecision net rows d r → RefusesDecision net rows d s → r ≡ s
  decision_one (decision.Keep a) r s p q = change_one a r s p q
  decision_one (decision.Drop a) r s p q = change_one a r s p q
  decision_one (decision.First i j) r s p q = first_one i j r s p q

  one_decision : (o : Option Decision) (d e : Decision) → o ≡ Some d → o ≡ Some e → d ≡ e
  one_decision o d e p q = some_one o d e p q

  list_one : (ds : List Decision) (r s : Refusal) → RefusesSome net rows ds r → RefusesSome net rows ds s → r ≡ s
  list_one ds r s p q =
      elim (cases_lt p.at q.at) [
        | inl before ↦ absurd (q.passed_before p.at p.decision before p.stands r p.refused)
        | inr behind ↦ elim (cases_lt q.at p.at) [
          | inl before ↦ absurd (p.passed_before q.at q.decision before q.stands s q.refused)
          | inr not_behind ↦
              let same : q.at ≡ p.at = omega (arith, behind, not_behind) in
              let there : slice_get ds p.at ≡ Some q.decision = ap (slice_get ds) (sym same) ∙ q.stands in
              let one : q.decision ≡ p.decision = one_decision (slice_get ds p.at) q.decision p.decision there p.stands in
              decision_one p.decision r s p.refused (subst (λ (d : Decision). RefusesDecision net rows d s) one q.refused)
        ]
      ]

  pub one_cause : (m : Message) (r s : Refusal) → RefusesAtOnce net rows m r → RefusesAtOnce net rows m s → r ≡ s
  one_cause (message.DelayEvent e d) r s p q = number_one DELAY e d r s p q
  one_cause (message.DelayActivity a d) r s p q = delay_one a d r s p q
  one_cause (message.Pass e t) r s p q = number_one PASSED_TIME e t r s p q
  one_cause (message.Recall e) r s p q = recall_one e r s p q
  one_cause (message.Keep a) r s p q = change_one a r s p q
  one_cause (message.Drop a) r s p q = change_one a r s p q
  one_cause (message.First i j) r s p q = first_one i j r s p q
  one_cause (message.Adopt ds) r s p q = list_one ds r s p q
  one_cause (message.Now t) r s p q = clock_one t r s p q
  one_cause (message.Cancel e) r s p q = cancel_one e r s p q
  one_cause (message.Restore e) r s p q = restore_one e r s p q
  one_cause (message.Lock c) r s p q = lock_one c r s p q
  one_cause (message.Unlock c) r s p q = unlock_one c r s p q
