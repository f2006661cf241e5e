-- The rows after accepted messages are within the limits, and so are their least times.
use Rattle.std.proofs.Common.{◌≡◌, ℕ, zero, suc, ◌+◌, ◌<◌, ◌≤◌, List, [], ◌∷◌, length, set, get_or, fold, Option, Some, None, refl, sym, subst, inl, inr, arith, Bool, true, false}
use Rattle.std.specs.Prelude.{option_map}
use Rattle.std.specs.Option.{ForSome}
use Rattle.std.proofs.lemmas.Bool.{cases_lt}
use Rattle.std.proofs.lemmas.List.{get_or_past}
use Rattle.std.proofs.lemmas.List.Sums.{fold_more}
use Rattle.std.proofs.lemmas.Option.{slice_get-get_or}
use Rattle.dm_base.specs.declared.limits.TheConstants.{DELAY, PASSED_TIME, BOUND}
use Rattle.dm_graph.proofs.Rounds.{least_is_bounded}
use Rattle.dm_graph.proofs.Timetables.{met_has_no_cycle}
use Rattle.dm_network.specs.Net.{Net, event_place, activity_place, IsWithinLimits}
use Rattle.dm_network.specs.Start.{IsNetwork}
use Rattle.dm_rows.specs.declared.messages.Entry.{Entry}
use Rattle.dm_rows.specs.declared.messages.Message.{Message}
use Rattle.dm_rows.specs.declared.messages.Message.TheVariants as message
use Rattle.dm_rows.specs.declared.messages.Refusal.{Refusal}
use Rattle.dm_rows.specs.declared.messages.Refusal.TheVariants as refusal
use Rattle.dm_rows.specs.declared.messages.Spot.{Spot}
use Rattle.dm_rows.specs.declared.messages.Spot.TheVariants as spot
use Rattle.dm_rows.specs.declared.messages.Flip.{Flip}
use Rattle.dm_rows.specs.declared.messages.Flip.TheVariants as flip
use Rattle.dm_rows.specs.declared.messages.Change.{Change}
use Rattle.dm_rows.specs.declared.messages.Change.TheVariants as change
use Rattle.dm_rows.specs.Active.{is_active}
use Rattle.dm_rows.specs.Rows.{RowsValue, RowsAreWithinLimits}
use Rattle.dm_rows.specs.Refuse.{Refuses}
use Rattle.dm_rows.specs.Resolve.{flips_named, after, after_flip, after_change, after_named, after_lock, spot_named}
use Rattle.dm_rows.specs.History.{rows_at, IsLegal}
use Rattle.dm_rows.specs.Timetable.{IsLeast, graph_of, time_at}
use Rattle.dm_rows.proofs.AsGraph.{least_as_graph}
use Rattle.dm_rows.proofs.Holding.{cycles_are_positive}
use Rattle.dm_feed.specs.Parts.{largest_value}
use Rattle.dm_check_times.proofs.OfRows.{floor_is_within, span_is_short}

-- ---- one row is set

set_keeps : {V : Type 0} (P : V → Type 0) (xs : List V) (i : ℕ) (v d : V) → P v → ((k : ℕ) → P (get_or xs k d)) → (j : ℕ) → P (get_or (set xs i v) j d)
set_keeps P [] i v d p each j = each j
set_keeps P (x ∷ xs) zero v d p each zero = p
set_keeps P (x ∷ xs) zero v d p each (suc j) = each (suc j)
set_keeps P (x ∷ xs) (suc i) v d p each zero = each zero
set_keeps P (x ∷ xs) (suc i) v d p each (suc j) = set_keeps P xs i v d p (λ k. each (suc k)) j

abbrev IsLow : ℕ → ℕ → Type 0
IsLow most n = n ≤ most

abbrev HasPassedEarly : Option ℕ → Type 0
HasPassedEarly o = ForSome o (λ t. t ≤ PASSED_TIME)

-- the numbers of a change are within the limits
abbrev IsLowChange : Change → Type 0
IsLowChange (change.EventDelay i d) = d ≤ DELAY
IsLowChange (change.ActDelay a d) = d ≤ DELAY
IsLowChange (change.Passed i t) = t ≤ PASSED_TIME
IsLowChange (change.Recalled i) = Unit {0}
IsLowChange (change.Flipped f) = Unit {0}
IsLowChange (change.Adopted fs) = Unit {0}
IsLowChange (change.Clock t) = t ≤ PASSED_TIME
IsLowChange (change.Cancelled i) = Unit {0}
IsLowChange (change.Restored i) = Unit {0}
IsLowChange (change.Locked spot) = Unit {0}
IsLowChange (change.Unlocked spot) = Unit {0}

flip_within : (rows : RowsValue) (f : Flip) → RowsAreWithinLimits rows → RowsAreWithinLimits (after_flip rows f)
flip_within rows (flip.Keep a) within = within
flip_within rows (flip.Drop a) within = within
flip_within rows (flip.First p small) within = within

lock_within : (rows : RowsValue) (s : Spot) (locked : Bool) → RowsAreWithinLimits rows → RowsAreWithinLimits (after_lock rows s locked)
lock_within rows (spot.Change a) locked within = within
lock_within rows (spot.Pair p) locked within = within

flips_within : (rows : RowsValue) (fs : List Flip) → RowsAreWithinLimits rows → RowsAreWithinLimits (fold after_flip rows fs)
flips_within rows [] within = within
flips_within rows (f ∷ fs) within = flips_within (after_flip rows f) fs (flip_within rows f within)

passed_early : (t : ℕ) → t ≤ PASSED_TIME → HasPassedEarly (Some t)
passed_early t low = λ x e. let same : t ≡ x = (let f : Some t ≡ Some x = e in cc) in omega (arith, low, same)

none_passed : HasPassedEarly None
none_passed = λ x e. absurd (let f : None ≡ Some x = e in cc)

change_within : (rows : RowsValue) (c : Change) → IsLowChange c → RowsAreWithinLimits rows → RowsAreWithinLimits (after_change rows c)
change_within rows (change.EventDelay i d) low within = record {
  of_events = set_keeps (IsLow DELAY) rows.event_delays i d 0 low within.of_events;
  of_activities = within.of_activities;
  of_passed = within.of_passed;
  of_clock = within.of_clock;
}
change_within rows (change.ActDelay a d) low within = record {
  of_events = within.of_events;
  of_activities = set_keeps (IsLow DELAY) rows.act_delays a d 0 low within.of_activities;
  of_passed = within.of_passed;
  of_clock = within.of_clock;
}
change_within rows (change.Passed i t) low within = record {
  of_events = within.of_events;
  of_activities = within.of_activities;
  of_passed = set_keeps HasPassedEarly rows.passed i (Some t) None (passed_early t low) within.of_passed;
  of_clock = within.of_clock;
}
change_within rows (change.Recalled i) low within = record {
  of_events = within.of_events;
  of_activities = within.of_activities;
  of_passed = set_keeps HasPassedEarly rows.passed i None None none_passed within.of_passed;
  of_clock = within.of_clock;
}
change_within rows (change.Flipped f) low within = flip_within rows f within
change_within rows (change.Adopted fs) low within = flips_within rows fs within
change_within rows (change.Clock t) low within = record {
  of_events = within.of_events;
  of_activities = within.of_activities;
  of_passed = within.of_passed;
  of_clock = low;
}
change_within rows (change.Cancelled i) low within = within
change_within rows (change.Restored i) low within = within
change_within rows (change.Locked s) low within = lock_within rows s true within
change_within rows (change.Unlocked s) low within = lock_within rows s false within

-- ---- accepted messages

named_within : {X : Type 0} (rows : RowsValue) (o : Option X) (f : X → Change) → ((x : X) → IsLowChange (f x)) → RowsAreWithinLimits rows → RowsAreWithinLimits (after_named rows (option_map f o))
named_within rows None f low within = within
named_within rows (Some x) f low within = change_within rows (f x) (low x) within

at_most : (n most : ℕ) → (most < n → ⊥) → n ≤ most
at_most n most not_more = elim (cases_lt most n) [ inl more ↦ absurd (not_more more) | inr low ↦ low ]

accepted_within : (net : Net) (rows : RowsValue) (n : ℕ) (m : Message) → ((r : Refusal) → Refuses net rows n m r → ⊥) → RowsAreWithinLimits rows → RowsAreWithinLimits (after net rows m)
accepted_within net rows n (message.DelayEvent e d) accepted within =
    named_within rows (event_place net e) (λ i. change.EventDelay i d) (λ i. at_most d DELAY (λ more. accepted (refusal.Range d) (more, refl))) within
accepted_within net rows n (message.DelayActivity a d) accepted within =
    named_within rows (activity_place net a) (λ x. change.ActDelay x d) (λ x. at_most d DELAY (λ more. accepted (refusal.Range d) (more, refl))) within
accepted_within net rows n (message.Pass e t) accepted within =
    named_within rows (event_place net e) (λ i. change.Passed i t) (λ i. at_most t PASSED_TIME (λ more. accepted (refusal.Range t) (more, refl))) within
accepted_within net rows n (message.Recall e) accepted within = named_within rows (event_place net e) (λ i. change.Recalled i) (λ i. tt) within
accepted_within net rows n (message.Keep a) accepted within = named_within rows _ (λ f. change.Flipped f) (λ f. tt) within
accepted_within net rows n (message.Drop a) accepted within = named_within rows _ (λ f. change.Flipped f) (λ f. tt) within
accepted_within net rows n (message.First i j) accepted within = named_within rows _ (λ f. change.Flipped f) (λ f. tt) within
accepted_within net rows n (message.Adopt ds) accepted within = named_within rows (flips_named net ds) (λ fs. change.Adopted fs) (λ fs. tt) within
accepted_within net rows n (message.Now t) accepted within =
    change_within rows (change.Clock t) (at_most t PASSED_TIME (λ more. accepted (refusal.Range t) (more, refl))) within
accepted_within net rows n (message.Cancel e) accepted within = named_within rows (event_place net e) (λ i. change.Cancelled i) (λ i. tt) within
accepted_within net rows n (message.Restore e) accepted within = named_within rows (event_place net e) (λ i. change.Restored i) (λ i. tt) within
accepted_within net rows n (message.Lock c) accepted within = named_within rows (spot_named net c) (λ s. change.Locked s) (λ s. tt) within
accepted_within net rows n (message.Unlock c) accepted within = named_within rows (spot_named net c) (λ s. change.Unlocked s) (λ s. tt) within

pub legal_within : (net : Net) (start : RowsValue) (history : List Entry) → IsLegal net start history → RowsAreWithinLimits start → (n : ℕ) → n ≤ length history →
    RowsAreWithinLimits (rows_at net start history n)
legal_within net start history legal within zero low = within
legal_within net start history legal within (suc n) low =
    let d : Entry = record { feed = 0; line = 0; message = message.Now 0 } in
    let entry : Entry = get_or history n d in
    let before = legal_within net start history legal within n (omega arith) in
    let next = accepted_within net (rows_at net start history n) n entry.message (λ r. legal.accepted n entry r (slice_get-get_or history n d (omega arith))) before in
    let more : RowsAreWithinLimits (rows_at net start history (n + 1)) =
    subst RowsAreWithinLimits (sym (fold_more (λ rows (e : Entry). after net rows e.message) start history n d (omega arith))) next in
    let count : n + 1 ≡ suc n = omega arith in
    subst (λ (k : ℕ). RowsAreWithinLimits (rows_at net start history k)) count more

-- ---- least times

pub least_low : (net : Net) (rows : RowsValue) (times : List ℕ) → IsNetwork net → IsWithinLimits net → RowsAreWithinLimits rows → IsLeast net rows times → (i : ℕ) → time_at times i ≤ largest_value
least_low net rows times network limits within least i =
    let as_graph = (least_as_graph net rows times network.formed.ends_are_known least.meets.size).0 least in
    let bound = least_is_bounded (graph_of net rows) (time_at times) PASSED_TIME (BOUND + DELAY) (λ e below. floor_is_within net rows limits within e) (λ a binds. span_is_short net rows limits within a)
    (met_has_no_cycle (graph_of net rows) (time_at times) (cycles_are_positive net rows (is_active net rows) network) as_graph.meets) as_graph in
    let few : length net.events ≤ 100000 = limits.events in
    elim (cases_lt i (length net.events)) [
      | inl below ↦ let b = bound i below in omega (arith, b, few)
      | inr past ↦ let e : time_at times i ≡ 0 = get_or_past times i 0 (let size = least.meets.size in omega arith) in omega (arith, e)
    ]
