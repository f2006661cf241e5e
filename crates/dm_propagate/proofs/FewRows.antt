-- Which rows of the network a change makes an engine read.
use Rattle.std.proofs.Common.{◌≡◌, ◌≢◌, ℕ, ◌+◌, ◌<◌, ◌≤◌, true, false, List, [], ◌∷◌, length, Option, Some, None, refl, sym, ap, subst, ◌∙◌, ◌⊎◌, inl, inr, arith, slice_index, get_or-set_same, get_or-set_other}
use Rattle.std.specs.Prelude.{nat_eq, unwrap_or, max}
use Rattle.std.specs.List.{Contains, IsDistinct}
use Rattle.std.proofs.lemmas.Bool.{cases_eq, eq-eqb}
use Rattle.std.proofs.lemmas.Map.Keys.{IsDistinct-head}
use Rattle.dm_network.specs.Net.{Net}
use Rattle.dm_rows.specs.Active.{is_active}
use Rattle.dm_rows.specs.Resolve.{after_change}
use Rattle.dm_rows.specs.Rows.{RowsValue, IsSized, passed_at}
use Rattle.dm_rows.specs.Timetable.{time_at, planned_time, floor_of, IsLeast}
use Rattle.dm_rows.specs.Touch.{TellsTouched, IsTouched, IsChanged, MayMove}
use Rattle.dm_rows.specs.declared.messages.Change.{Change}
use Rattle.dm_rows.specs.declared.messages.Change.TheVariants.{EventDelay, ActDelay, Passed, Recalled, Flipped, Adopted, Clock, Cancelled, Restored, Locked, Unlocked}
use Rattle.dm_settle.specs.Constraints.{arcs_given}
use Rattle.dm_marks.specs.Marked.{is_marked}
use Rattle.dm_live.specs.Live.{LiveValue, IsAtRest, ReadsFew as LiveReadsFew}
use Rattle.dm_propagate.specs.Engine.{FollowsRows}
use Rattle.dm_propagate.specs.Reading.{KeepsClock, ReadsFew}
use Rattle.dm_propagate.specs.Inside.Changing.{IsOffFloor, HasPassed, IsTakenOut, MarksOnly, MarksFor}
use Rattle.dm_rows.specs.Reach.{Reaches}
use Rattle.dm_propagate.proofs.Cancelling.{enters_no_cancelled, is_out, cancel_ends, cancel_begins_none, set_back, alone_at_floor}
use Rattle.dm_propagate.proofs.Passing.{is_passed, enters_no_passed, pass_ends, pass_begins}
use Rattle.dm_settle.proofs.Reading.{in_front, behind, front_or, distinct_with}

-- the timetable before a change, when it follows the rows after it, and when it is settled again
module _ (net : Net) (rows : RowsValue) (before turned after : LiveValue) (first mid last : ℕ)
    (rest : IsAtRest before) (followed : FollowsRows net rows before.given) (was_least : IsLeast net rows before.times) where
  not_marked : (e : ℕ) → is_marked before.marks e ≡ true → ⊥
  not_marked e m = let off = rest e (omega arith) in cc

  module _ (change : Change) (follows : FollowsRows net (after_change rows change) turned.given) (reads : LiveReadsFew (arcs_given net turned.given) turned after mid last)
      (changed : (e : ℕ) → slice_index turned.times e ≢ slice_index after.times e → IsChanged before.times after.times e)
      (touched : (e : ℕ) → is_marked turned.marks e ≡ true → IsTouched net (after_change rows change) change before.times e) where
    may_move : (e : ℕ) → Contains reads.renewed e → MayMove net (after_change rows change) change before.times after.times e
    may_move e c = elim (reads.reads.caused e c) [
      | inl marked ↦ inl (touched e marked)
      | inr f ↦ inr (
        f.from,
        changed f.from (reads.reads.differs f.from f.among),
        record {
          a = f.leads.arc;
          active = record { is_activity = f.leads.binds.is_arc; active = sym (follows.held f.leads.arc f.leads.binds.is_arc) ∙ f.leads.binds.is_held };
          from_tail = f.leads.leaves;
          to_head = f.leads.enters;
        },
      )
    ]

    -- no row was read before it is settled
    few_settled : mid ≡ first → ReadsFew net (after_change rows change) change before.times after.times first last
    few_settled none = record {
      renewed = reads.renewed;
      moved = reads.moved;
      renewed_once = reads.reads.renewed_once;
      moved_once = reads.reads.moved_once;
      may_move = may_move;
      changed = λ e c. changed e (reads.reads.differs e c);
      counted = let n = reads.counted in omega arith;
    }

    -- the rows of one event were, one of them because it has changed
    few_with : (i : ℕ) → MayMove net (after_change rows change) change before.times after.times i → ((e : ℕ) → Contains reads.renewed e → i ≢ e) →
        IsChanged before.times after.times i → ((e : ℕ) → Contains reads.moved e → i ≢ e) → mid ≡ first + 3 →
        ReadsFew net (after_change rows change) change before.times after.times first last
    few_with i moves fresh has_changed other three = record {
      renewed = i ∷ reads.renewed;
      moved = i ∷ reads.moved;
      renewed_once = distinct_with reads.renewed i reads.reads.renewed_once fresh;
      moved_once = distinct_with reads.moved i reads.reads.moved_once other;
      may_move = λ e c. elim (front_or reads.renewed i e c) [
        | inl is ↦ subst (MayMove net (after_change rows change) change before.times after.times) (sym is) moves
        | inr there ↦ may_move e there
      ];
      changed = λ e c. elim (front_or reads.moved i e c) [
        | inl is ↦ subst (IsChanged before.times after.times) (sym is) has_changed
        | inr there ↦ changed e (reads.reads.differs e there)
      ];
      counted = let n = reads.counted in omega arith;
    }

    few_without : (i : ℕ) → MayMove net (after_change rows change) change before.times after.times i → ((e : ℕ) → Contains reads.renewed e → i ≢ e) →
        mid ≡ first + 2 → ReadsFew net (after_change rows change) change before.times after.times first last
    few_without i moves fresh two = record {
      renewed = i ∷ reads.renewed;
      moved = reads.moved;
      renewed_once = distinct_with reads.renewed i reads.reads.renewed_once fresh;
      moved_once = reads.reads.moved_once;
      may_move = λ e c. elim (front_or reads.renewed i e c) [
        | inl is ↦ subst (MayMove net (after_change rows change) change before.times after.times) (sym is) moves
        | inr there ↦ may_move e there
      ];
      changed = λ e c. changed e (reads.reads.differs e c);
      counted = let n = reads.counted in omega arith;
    }

  same_changed : turned.times ≡ before.times → (e : ℕ) → slice_index turned.times e ≢ slice_index after.times e → IsChanged before.times after.times e
  same_changed same e ne is = ne (ap (λ (ts : List ℕ). slice_index ts e) same ∙ is)

  -- an event whose floor is off by a later clock has not passed, and lies before that clock
  late : (o : Option ℕ) (planned clock t floor time : ℕ) → clock ≤ t → floor ≡ unwrap_or o (max planned clock) →
      ((p : ℕ) → o ≡ Some p → time ≡ p) → (o ≡ None → planned ≤ time) →
      (unwrap_or o (max planned t) < floor) ⊎ (time < unwrap_or o (max planned t)) → (o ≡ None) × (time < t)
  late None planned clock t floor time on is passed above off = elim off [
    | inl falls ↦ absurd (omega arith)
    | inr below ↦ let a = above refl in (refl, omega arith)
  ]
  late (Some p) planned clock t floor time on is passed above off = elim off [
    | inl falls ↦ absurd (omega arith)
    | inr below ↦ let a = passed p refl in absurd (omega arith)
  ]

  clock_touches : (t : ℕ) → rows.clock ≤ t → (e : ℕ) → e < length net.events → IsOffFloor net (after_change rows (Clock t)) before e →
      IsTouched net (after_change rows (Clock t)) (Clock t) before.times e
  clock_touches t on e lt off =
      let l = late (passed_at rows e) (planned_time net rows e) rows.clock t (slice_index before.given.floors e) (time_at before.times e) on
      (followed.floors e lt) (λ p is. was_least.meets.passed e p lt is) (λ is. was_least.meets.above e lt is) off in
      (lt, l.0, l.1)

  -- an event has passed
  module _ (i t : ℕ) (is_event : i < length rows.passed) (in_times : i < length before.times) (in_net : i < length net.events)
      (follows : FollowsRows net (after_change rows (Passed i t)) turned.given)
      (reads : LiveReadsFew (arcs_given net turned.given) turned after mid last) (now_least : IsLeast net (after_change rows (Passed i t)) after.times)
      (has : HasPassed net (after_change rows (Passed i t)) i t before turned first mid) where
    turned_here : slice_index turned.times i ≡ t
    turned_here = ap (λ (ts : List ℕ). slice_index ts i) has.times ∙ get_or-set_same before.times i t 0 in_times

    after_here : slice_index after.times i ≡ t
    after_here = now_least.meets.passed i t in_net (is_passed net rows i t is_event)

    moved_other : (e : ℕ) → slice_index turned.times e ≢ slice_index after.times e → e ≢ i
    moved_other e ne is =
        ne (ap (slice_index turned.times) is ∙ turned_here ∙ sym (ap (slice_index after.times) is ∙ after_here))

    changed_there : (e : ℕ) → slice_index turned.times e ≢ slice_index after.times e → IsChanged before.times after.times e
    changed_there e ne is =
        ne (ap (λ (ts : List ℕ). slice_index ts e) has.times ∙ get_or-set_other before.times i e t 0 (moved_other e ne) ∙ is)

    touched_there : (e : ℕ) → is_marked turned.marks e ≡ true → IsTouched net (after_change rows (Passed i t)) (Passed i t) before.times e
    touched_there e m =
        let cause = has.marked e m in
        elim cause.1 [
          | inl one ↦ elim one [ inl was ↦ absurd (not_marked e was) | inr between ↦ inr between ]
          | inr two ↦ elim two [
            | inl gone ↦
                let active : is_active net rows gone.a ≡ true = sym (followed.held gone.a gone.is_activity) ∙ gone.was_held in
                absurd (cause.0 (sym gone.head ∙ pass_ends net rows i t is_event gone.a active gone.not_active))
            | inr taken ↦
                let inactive : is_active net rows taken.a ≡ false = sym (followed.held taken.a taken.is_activity) ∙ taken.not_held in
                inr (record {
                  a = taken.a;
                  active = record { is_activity = taken.is_activity; active = taken.active };
                  from_tail = pass_begins net rows i t is_event taken.a inactive taken.active;
                  to_head = taken.head;
                })
          ]
        ]

    fresh : (e : ℕ) → Contains reads.renewed e → i ≢ e
    fresh e c is = elim (reads.reads.caused e c) [
      | inl marked ↦ (has.marked e marked).0 (sym is)
      | inr f ↦ enters_no_passed net rows i t is_event f.leads.arc
          (sym (follows.held f.leads.arc f.leads.binds.is_arc) ∙ f.leads.binds.is_held) (f.leads.enters ∙ sym is)
    ]

    other : (e : ℕ) → Contains reads.moved e → i ≢ e
    other e c is = moved_other e (reads.reads.differs e c) (sym is)

    few_passed : ReadsFew net (after_change rows (Passed i t)) (Passed i t) before.times after.times first last
    few_passed = elim (cases_eq (slice_index before.times i) t) [
      | inl stays ↦ few_without (Passed i t) follows reads changed_there touched_there i (inl (inl refl)) fresh (has.stays stays)
      | inr moves ↦ few_with (Passed i t) follows reads changed_there touched_there i (inl (inl refl)) fresh
          (λ is. moves (is ∙ after_here)) other (has.moves moves)
    ]

  -- an event is cancelled
  module _ (i : ℕ) (is_event : i < length rows.cancelled) (runs : passed_at rows i ≡ None) (in_times : i < length before.times) (in_net : i < length net.events)
      (follows : FollowsRows net (after_change rows (Cancelled i)) turned.given)
      (reads : LiveReadsFew (arcs_given net turned.given) turned after mid last) (now_least : IsLeast net (after_change rows (Cancelled i)) after.times)
      (has : IsTakenOut net (after_change rows (Cancelled i)) i before turned first mid) where
    out_here : slice_index turned.times i ≡ floor_of net rows i
    out_here = ap (λ (ts : List ℕ). slice_index ts i) has.times ∙ get_or-set_same before.times i (floor_of net rows i) 0 in_times

    out_after : slice_index after.times i ≡ floor_of net rows i
    out_after = alone_at_floor net (after_change rows (Cancelled i)) i after.times in_net runs (is_out net rows i is_event) now_least

    out_other : (e : ℕ) → slice_index turned.times e ≢ slice_index after.times e → e ≢ i
    out_other e ne is = ne (ap (slice_index turned.times) is ∙ out_here ∙ sym (ap (slice_index after.times) is ∙ out_after))

    out_changed : (e : ℕ) → slice_index turned.times e ≢ slice_index after.times e → IsChanged before.times after.times e
    out_changed e ne is =
        ne (ap (λ (ts : List ℕ). slice_index ts e) has.times ∙ get_or-set_other before.times i e (floor_of net rows i) 0 (out_other e ne) ∙ is)

    out_touched : (e : ℕ) → is_marked turned.marks e ≡ true → IsTouched net (after_change rows (Cancelled i)) (Cancelled i) before.times e
    out_touched e m =
        let cause = has.marked e m in
        elim cause.1 [
          | inl was ↦ absurd (not_marked e was)
          | inr other ↦ elim other [
            | inl gone ↦
                let active : is_active net rows gone.a ≡ true = sym (followed.held gone.a gone.is_activity) ∙ gone.was_held in
                inr (record {
                  a = gone.a;
                  active = record { is_activity = gone.is_activity; active = set_back net rows i is_event gone.a active };
                  from_tail = elim (cancel_ends net rows i is_event gone.a active gone.not_active) [
                    | inl head ↦ absurd (cause.0 (sym gone.head ∙ head))
                    | inr tail ↦ tail
                  ];
                  to_head = gone.head;
                })
            | inr taken ↦
                let inactive : is_active net rows taken.a ≡ false = sym (followed.held taken.a taken.is_activity) ∙ taken.not_held in
                let was : is_active net rows taken.a ≡ true = cancel_begins_none net rows i is_event taken.a taken.active in
                absurd cc
          ]
        ]

    out_fresh : (e : ℕ) → Contains reads.renewed e → i ≢ e
    out_fresh e c is = elim (reads.reads.caused e c) [
      | inl marked ↦ (has.marked e marked).0 (sym is)
      | inr f ↦ enters_no_cancelled net (after_change rows (Cancelled i)) i (is_out net rows i is_event) f.leads.arc
          (sym (follows.held f.leads.arc f.leads.binds.is_arc) ∙ f.leads.binds.is_held) (f.leads.enters ∙ sym is)
    ]

    out_not_moved : (e : ℕ) → Contains reads.moved e → i ≢ e
    out_not_moved e c is = out_other e (reads.reads.differs e c) (sym is)

    few_cancelled : ReadsFew net (after_change rows (Cancelled i)) (Cancelled i) before.times after.times first last
    few_cancelled = elim (cases_eq (slice_index before.times i) (floor_of net rows i)) [
      | inl stays ↦ few_without (Cancelled i) follows reads out_changed out_touched i (inl (inl refl)) out_fresh (has.stays stays)
      | inr moves ↦ few_with (Cancelled i) follows reads out_changed out_touched i (inl (inl refl)) out_fresh
          (λ is. moves (is ∙ out_after)) out_not_moved (has.moves moves)
    ]

  -- nothing is touched
  few_untouched : (change : Change) → FollowsRows net (after_change rows change) turned.given →
      LiveReadsFew (arcs_given net turned.given) turned after mid last → MarksOnly (λ e. ⊥) before turned first mid →
      ReadsFew net (after_change rows change) change before.times after.times first last
  few_untouched change follows reads marks =
      few_settled change follows reads (same_changed marks.times)
      (λ e m. elim (marks.marked e m) [ inl was ↦ absurd (not_marked e was) | inr never ↦ absurd never ]) marks.steps

  pub few_read : (change : Change) → IsSized net rows → Reaches rows change →
      length before.times ≡ length net.events → FollowsRows net (after_change rows change) turned.given →
      LiveReadsFew (arcs_given net turned.given) turned after mid last → IsLeast net (after_change rows change) after.times →
      MarksFor net (after_change rows change) change before turned first mid → TellsTouched change → KeepsClock rows change →
      ReadsFew net (after_change rows change) change before.times after.times first last
  few_read (EventDelay i d) size reaches many follows reads least marks kind on =
      few_settled (EventDelay i d) follows reads (same_changed marks.times)
      (λ e m. elim (marks.marked e m) [ inl was ↦ absurd (not_marked e was) | inr is ↦ is ]) marks.steps
  few_read (ActDelay a d) size reaches many follows reads least marks kind on =
      few_settled (ActDelay a d) follows reads (same_changed marks.times)
      (λ e m. elim (marks.marked e m) [ inl was ↦ absurd (not_marked e was) | inr is ↦ is ]) marks.steps
  few_read (Passed i t) size reaches many follows reads least marks kind on =
      let below = reaches.0 in
      let as_many = size.passed in
      few_passed i t below (omega arith) (omega arith) follows reads least (marks t (is_passed net rows i t below))
  few_read (Recalled i) size reaches many follows reads least marks kind on = absurd kind
  few_read (Flipped flip) size reaches many follows reads least marks kind on = absurd kind
  few_read (Adopted flips) size reaches many follows reads least marks kind on = absurd kind
  few_read (Cancelled i) size reaches many follows reads least marks kind on =
      let below = reaches.0 in
      let as_many = size.cancelled in
      few_cancelled i below reaches.1 (omega arith) (omega arith) follows reads least (marks (is_out net rows i below))
  few_read (Restored i) size reaches many follows reads least marks kind on = absurd kind
  few_read (Locked spot) size reaches many follows reads least marks kind on = few_untouched (Locked spot) follows reads marks
  few_read (Unlocked spot) size reaches many follows reads least marks kind on = few_untouched (Unlocked spot) follows reads marks
  few_read (Clock t) size reaches many follows reads least marks kind on =
      few_settled (Clock t) follows reads (same_changed marks.times)
      (λ e m. elim (marks.marked e m) [ inl was ↦ absurd (not_marked e was) | inr off ↦ clock_touches t on e off.0 off.1 ]) marks.steps

  pub few_read_for : (change : Change) (other : RowsValue) → other ≡ after_change rows change → IsSized net rows → Reaches rows change →
      length before.times ≡ length net.events → FollowsRows net other turned.given →
      LiveReadsFew (arcs_given net turned.given) turned after mid last → IsLeast net other after.times →
      MarksFor net other change before turned first mid → TellsTouched change → KeepsClock rows change →
      ReadsFew net other change before.times after.times first last
  few_read_for change other is size reaches many follows reads least marks kind on =
      subst (λ (o : RowsValue). ReadsFew net o change before.times after.times first last) (sym is)
      (few_read change size reaches many (subst (λ (o : RowsValue). FollowsRows net o turned.given) is follows) reads
      (subst (λ (o : RowsValue). IsLeast net o after.times) is least)
      (subst (λ (o : RowsValue). MarksFor net o change before turned first mid) is marks) kind on)

-- where no time changes, a delay of an event makes two rows be read at most
module _ (net : Net) (rows : RowsValue) (i d : ℕ) (x : List ℕ) where
  none_changed : (moved : List ℕ) → ((e : ℕ) → Contains moved e → IsChanged x x e) → length moved ≡ 0
  none_changed [] changed = refl
  none_changed (e ∷ rest) changed = absurd (changed e (in_front rest e) refl)

  moves_one : (e : ℕ) → MayMove net rows (EventDelay i d) x x e → e ≡ i
  moves_one e (inl touched) = touched
  moves_one e (inr follows) = absurd (follows.1 refl)

  one_moves : (renewed : List ℕ) → IsDistinct nat_eq renewed → ((e : ℕ) → Contains renewed e → e ≡ i) → length renewed ≤ 1
  one_moves [] distinct each = omega arith
  one_moves (e ∷ []) distinct each = omega arith
  one_moves (e ∷ f ∷ rest) distinct each =
      let same : e ≡ f = each e (in_front (f ∷ rest) e) ∙ sym (each f (behind (f ∷ rest) e f (in_front rest f))) in
      let apart : nat_eq e f ≡ false = (IsDistinct-head nat_eq e (f ∷ rest) distinct).0 in
      let equal : nat_eq e f ≡ true = eq-eqb e f same in
      absurd cc

  pub two_rows : (first last : ℕ) → ReadsFew net rows (EventDelay i d) x x first last → last ≤ first + 2
  two_rows first last few =
      let none = none_changed few.moved few.changed in
      let one = one_moves few.renewed few.renewed_once (λ e c. moves_one e (few.may_move e c)) in
      let counted = few.counted in
      omega arith
