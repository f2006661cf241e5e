-- The numbers of a true answer are ones that types hold.
use Rattle.std.proofs.Common.{◌≡◌, ℕ, ◌≤◌, List, length, Option, Some, None, All, sym, subst, inl, inr, arith}
use Rattle.std.specs.Option.{IsSomeAnd}
use Rattle.std.proofs.lemmas.Option.{option_and_then_some}
use Rattle.dm_base.specs.declared.ids.ActId.{ActId}
use Rattle.dm_base.specs.declared.ids.EventId.{EventId}
use Rattle.dm_base.specs.declared.limits.TheConstants.{ENTRIES, PASSED_TIME}
use Rattle.dm_network.specs.Net.{Net, event_place, activity_place}
use Rattle.dm_rows.specs.declared.messages.At.{At}
use Rattle.dm_rows.specs.declared.messages.Entry.{Entry}
use Rattle.dm_rows.specs.declared.messages.Choice.TheVariants as choice
use Rattle.dm_rows.specs.declared.messages.Decision.{Decision}
use Rattle.dm_rows.specs.declared.messages.Decision.TheVariants as decision
use Rattle.dm_rows.specs.declared.messages.Message.{Message}
use Rattle.dm_rows.specs.declared.messages.Message.TheVariants as message
use Rattle.dm_rows.specs.declared.messages.Refusal.{Refusal}
use Rattle.dm_rows.specs.declared.messages.Refusal.TheVariants as refusal
use Rattle.dm_rows.specs.Rows.{RowsValue, RowsAreWithinLimits, passed_at}
use Rattle.dm_rows.specs.Carry.{free_among}
use Rattle.dm_rows.specs.Refuse.{Refuses, RefusesChange, RefusesFirst, RefusesDecision, passed_time, HeadHasPassed}
use Rattle.dm_feed.specs.Parts.{Fits, id, largest_value}
use Rattle.dm_feed.specs.Lines.{parts_of_message, IsSaid}
use Rattle.dm_feed.specs.declared.grammar.Line.{Line}
use Rattle.dm_feed.specs.declared.grammar.Line.TheVariants.{Say, Time as AskTime, CostNow as AskCost, Plan as AskPlan, Solve as AskSolve, Adopt as AskAdopt, Carry as AskCarry, Read as AskRead}
use Rattle.dm_tree.specs.declared.adopting.Chosen.{Chosen}
use Rattle.dm_cert.specs.declared.replies.Reply.{Reply}
use Rattle.dm_cert.specs.declared.replies.Reply.TheVariants as reply
use Rattle.dm_cert.specs.declared.replies.LogItem.{LogItem}
use Rattle.dm_cert.specs.declared.replies.LogItem.TheVariants.{Malformed, Answered}
use Rattle.dm_cert.specs.Answers.{Setting, rows_after, latest_plan, HasNoRoom, IsRefused, carried, IsTrueReply}
use Rattle.dm_cert.specs.RunTexts.{FitsReason, FitsReply, IsSpelledReason, IsSpelledReply}
use Rattle.dm_records.specs.RunLines.{lone, IsFormedReason, IsFormedReply, IsFormedSaid, IsItemLine}
use Rattle.dm_records.specs.Readings.{IsSmallItem}
use Rattle.dm_records.proofs.SmallItems.{small_reply}
use Rattle.dm_check.specs.FalseRecords.{IsNextItem}
use Rattle.dm_check.specs.Inside.Sound.{IsSound}
use Rattle.dm_check.proofs.Truth.Limits.{legal_within, least_low}

-- ---- refusals that tell a value, a time or a clock

-- the value that is out of range is the message's own
range_fits : (net : Net) (rows : RowsValue) (n : ℕ) (m : Message) (v : ℕ) → IsSaid m → All Fits (parts_of_message m) → Refuses net rows n m (refusal.Range v) → v ≤ largest_value
range_fits net rows n (message.DelayEvent e d) v said fits is = let low : d ≤ largest_value = fits 3 (id 0) (omega arith) in let same = is.1 in omega arith
range_fits net rows n (message.DelayActivity a d) v said fits is = let low : d ≤ largest_value = fits 3 (id 0) (omega arith) in let same = is.1 in omega arith
range_fits net rows n (message.Pass e t) v said fits is = let low : t ≤ largest_value = fits 2 (id 0) (omega arith) in let same = is.1 in omega arith
range_fits net rows n (message.Recall e) v said fits is = absurd is
range_fits net rows n (message.Keep a) v said fits is = absurd is
range_fits net rows n (message.Drop a) v said fits is = absurd is
range_fits net rows n (message.First i j) v said fits is = absurd is
range_fits net rows n (message.Adopt ds) v said fits is = absurd said
range_fits net rows n (message.Now t) v said fits is = let low : t ≤ largest_value = fits 1 (id 0) (omega arith) in let same = is.1 in omega arith
range_fits net rows n (message.Cancel e) v said fits is = absurd is
range_fits net rows n (message.Restore e) v said fits is = absurd is
range_fits net rows n (message.Lock (choice.Change a)) v said fits is = absurd is
range_fits net rows n (message.Lock (choice.Pair i j)) v said fits is = absurd is
range_fits net rows n (message.Unlock (choice.Change a)) v said fits is = absurd is
range_fits net rows n (message.Unlock (choice.Pair i j)) v said fits is = absurd is

passed_early : (rows : RowsValue) (i t : ℕ) → RowsAreWithinLimits rows → passed_at rows i ≡ Some t → t ≤ largest_value
passed_early rows i t within e = let low : t ≤ PASSED_TIME = within.of_passed i t e in omega arith

time_early : (net : Net) (rows : RowsValue) (e : EventId) (t : ℕ) → RowsAreWithinLimits rows → passed_time net rows e ≡ Some t → t ≤ largest_value
time_early net rows e t within is = option_and_then_some (passed_at rows) (event_place net e) t is (λ i place passed. passed_early rows i t within passed)

head_early : (net : Net) (rows : RowsValue) (o : Option ℕ) (e : EventId) (t : ℕ) → RowsAreWithinLimits rows → IsSomeAnd o (λ x. HeadHasPassed net rows x e t) → t ≤ largest_value
head_early net rows None e t within is = absurd is
head_early net rows (Some x) e t within is = passed_early rows _ t within is.1

change_early : (net : Net) (rows : RowsValue) (o : Option ℕ) (P : ℕ → Type 0) (e : EventId) (t : ℕ) → RowsAreWithinLimits rows → IsSomeAnd o (λ x. P x × HeadHasPassed net rows x e t) → t ≤ largest_value
change_early net rows None P e t within is = absurd is
change_early net rows (Some x) P e t within is = passed_early rows _ t within is.1.1

-- a change, a pair, a decision of which an event has passed
change_passed_fits : (net : Net) (rows : RowsValue) (a : ActId) (e : EventId) (t : ℕ) → RowsAreWithinLimits rows → RefusesChange net rows a (refusal.Passed e t) → t ≤ largest_value
change_passed_fits net rows a e t within is = change_early net rows (activity_place net a) _ e t within is

first_passed_fits : (net : Net) (rows : RowsValue) (i j e : EventId) (t : ℕ) → RowsAreWithinLimits rows → RefusesFirst net rows i j (refusal.Passed e t) → t ≤ largest_value
first_passed_fits net rows i j e t within is = elim is.1 [
  | inl first ↦ time_early net rows i t within first.0
  | inr second ↦ time_early net rows j t within second.1
]

decision_passed_fits : (net : Net) (rows : RowsValue) (d : Decision) (e : EventId) (t : ℕ) → RowsAreWithinLimits rows → RefusesDecision net rows d (refusal.Passed e t) → t ≤ largest_value
decision_passed_fits net rows (decision.Keep a) e t within is = change_passed_fits net rows a e t within is
decision_passed_fits net rows (decision.Drop a) e t within is = change_passed_fits net rows a e t within is
decision_passed_fits net rows (decision.First i j) e t within is = first_passed_fits net rows i j e t within is

passed_fits : (net : Net) (rows : RowsValue) (n : ℕ) (m : Message) (e : EventId) (t : ℕ) → IsSaid m → RowsAreWithinLimits rows → Refuses net rows n m (refusal.Passed e t) → t ≤ largest_value
passed_fits net rows n (message.DelayEvent i d) e t said within is = time_early net rows i t within is.1
passed_fits net rows n (message.DelayActivity a d) e t said within is = head_early net rows (activity_place net a) e t within is.1
passed_fits net rows n (message.Pass i s) e t said within is = time_early net rows i t within is.1
passed_fits net rows n (message.Recall i) e t said within is = absurd is
passed_fits net rows n (message.Keep a) e t said within is = change_passed_fits net rows a e t within is
passed_fits net rows n (message.Drop a) e t said within is = change_passed_fits net rows a e t within is
passed_fits net rows n (message.First i j) e t said within is = first_passed_fits net rows i j e t within is
passed_fits net rows n (message.Adopt ds) e t said within is = absurd said
passed_fits net rows n (message.Now s) e t said within is = absurd is
passed_fits net rows n (message.Cancel i) e t said within is = time_early net rows i t within is.0
passed_fits net rows n (message.Restore i) e t said within is = absurd is
passed_fits net rows n (message.Lock (choice.Change a)) e t said within is = change_passed_fits net rows a e t within is
passed_fits net rows n (message.Lock (choice.Pair i j)) e t said within is = first_passed_fits net rows i j e t within is
passed_fits net rows n (message.Unlock (choice.Change a)) e t said within is = absurd is
passed_fits net rows n (message.Unlock (choice.Pair i j)) e t said within is = absurd is

back_fits : (net : Net) (rows : RowsValue) (n : ℕ) (m : Message) (c : ℕ) → IsSaid m → RowsAreWithinLimits rows → Refuses net rows n m (refusal.Back c) → c ≤ largest_value
back_fits net rows n (message.DelayEvent e d) c said within is = absurd is
back_fits net rows n (message.DelayActivity a d) c said within is = absurd is
back_fits net rows n (message.Pass e t) c said within is = absurd is
back_fits net rows n (message.Recall e) c said within is = absurd is
back_fits net rows n (message.Keep a) c said within is = absurd is
back_fits net rows n (message.Drop a) c said within is = absurd is
back_fits net rows n (message.First i j) c said within is = absurd is
back_fits net rows n (message.Adopt ds) c said within is = absurd said
back_fits net rows n (message.Cancel e) c said within is = absurd is
back_fits net rows n (message.Restore e) c said within is = absurd is
back_fits net rows n (message.Lock (choice.Change a)) c said within is = absurd is
back_fits net rows n (message.Lock (choice.Pair i j)) c said within is = absurd is
back_fits net rows n (message.Unlock (choice.Change a)) c said within is = absurd is
back_fits net rows n (message.Unlock (choice.Pair i j)) c said within is = absurd is
back_fits net rows n (message.Now t) c said within is = let low : rows.clock ≤ PASSED_TIME = within.of_clock in let same = is.2 in omega arith

said_reason_fits : (net : Net) (rows : RowsValue) (n : ℕ) (m : Message) (why : Refusal) → IsSaid m → All Fits (parts_of_message m) → RowsAreWithinLimits rows → Refuses net rows n m why → IsFormedReason why →
    FitsReason why
said_reason_fits net rows n m (refusal.Range v) said fits within is formed = range_fits net rows n m v said fits is
said_reason_fits net rows n m (refusal.UnknownEvent e) said fits within is formed = formed
said_reason_fits net rows n m (refusal.UnknownActivity a) said fits within is formed = formed
said_reason_fits net rows n m (refusal.UnknownChange a) said fits within is formed = formed
said_reason_fits net rows n m (refusal.UnknownPair i j) said fits within is formed = formed
said_reason_fits net rows n m (refusal.Passed e t) said fits within is formed = (formed.0, passed_fits net rows n m e t said within is)
said_reason_fits net rows n m (refusal.NotPassed e) said fits within is formed = formed
said_reason_fits net rows n m (refusal.Cancelled e) said fits within is formed = formed
said_reason_fits net rows n m (refusal.NotCancelled e) said fits within is formed = formed
said_reason_fits net rows n m (refusal.Locked c) said fits within is formed = formed.0
said_reason_fits net rows n m (refusal.NotLocked c) said fits within is formed = formed.0
said_reason_fits net rows n m (refusal.Back c) said fits within is formed = back_fits net rows n m c said within is
said_reason_fits net rows n m (refusal.Cycle ids) said fits within is formed = formed.1
said_reason_fits net rows n m (refusal.Full k) said fits within is formed = let same : k ≡ ENTRIES = formed in omega arith
said_reason_fits net rows n m refusal.OutOfMemory said fits within is formed = tt

-- a list of decisions is refused for no value and no clock
no_range : (net : Net) (rows : RowsValue) (d : Decision) (v : ℕ) → RefusesDecision net rows d (refusal.Range v) → ⊥
no_range net rows (decision.Keep a) v is = is
no_range net rows (decision.Drop a) v is = is
no_range net rows (decision.First i j) v is = is

no_back : (net : Net) (rows : RowsValue) (d : Decision) (c : ℕ) → RefusesDecision net rows d (refusal.Back c) → ⊥
no_back net rows (decision.Keep a) c is = is
no_back net rows (decision.Drop a) c is = is
no_back net rows (decision.First i j) c is = is

adopted_reason_fits : (net : Net) (rows : RowsValue) (n : ℕ) (ds : List Decision) (why : Refusal) → RowsAreWithinLimits rows → Refuses net rows n (message.Adopt ds) why → IsFormedReason why →
    FitsReason why
adopted_reason_fits net rows n ds (refusal.Range v) within is formed = absurd (no_range net rows is.decision v is.refused)
adopted_reason_fits net rows n ds (refusal.UnknownEvent e) within is formed = formed
adopted_reason_fits net rows n ds (refusal.UnknownActivity a) within is formed = formed
adopted_reason_fits net rows n ds (refusal.UnknownChange a) within is formed = formed
adopted_reason_fits net rows n ds (refusal.UnknownPair i j) within is formed = formed
adopted_reason_fits net rows n ds (refusal.Passed e t) within is formed = (formed.0, decision_passed_fits net rows is.decision e t within is.refused)
adopted_reason_fits net rows n ds (refusal.NotPassed e) within is formed = formed
adopted_reason_fits net rows n ds (refusal.Cancelled e) within is formed = formed
adopted_reason_fits net rows n ds (refusal.NotCancelled e) within is formed = formed
adopted_reason_fits net rows n ds (refusal.Locked c) within is formed = formed.0
adopted_reason_fits net rows n ds (refusal.NotLocked c) within is formed = formed.0
adopted_reason_fits net rows n ds (refusal.Back c) within is formed = absurd (no_back net rows is.decision c is.refused)
adopted_reason_fits net rows n ds (refusal.Cycle ids) within is formed = formed.1
adopted_reason_fits net rows n ds (refusal.Full k) within is formed = let same : k ≡ ENTRIES = formed in omega arith
adopted_reason_fits net rows n ds refusal.OutOfMemory within is formed = tt

-- an unknown event, or a full history
unknown_fits : (why : Refusal) (event : EventId) → why ≡ refusal.UnknownEvent event → IsFormedReason why → FitsReason why
unknown_fits why event e formed = subst FitsReason (sym e) (subst IsFormedReason e formed)

full_fits : (history : List Entry) (n : ℕ) (why : Refusal) (latest : Option Chosen) → IsSomeAnd latest (λ plan. HasNoRoom history n why plan) → FitsReason why
full_fits history n why None is = absurd is
full_fits history n why (Some plan) is = subst FitsReason (sym is.is_why) full
  where
    full : FitsReason (refusal.Full ENTRIES)
    full = omega arith

-- ---- spellings

reason_spelled : (why : Refusal) → IsFormedReason why → IsSpelledReason why
reason_spelled (refusal.Range v) formed = tt
reason_spelled (refusal.UnknownEvent e) formed = tt
reason_spelled (refusal.UnknownActivity a) formed = tt
reason_spelled (refusal.UnknownChange a) formed = tt
reason_spelled (refusal.UnknownPair i j) formed = tt
reason_spelled (refusal.Passed e t) formed = tt
reason_spelled (refusal.NotPassed e) formed = tt
reason_spelled (refusal.Cancelled e) formed = tt
reason_spelled (refusal.NotCancelled e) formed = tt
reason_spelled (refusal.Locked c) formed = formed.1
reason_spelled (refusal.NotLocked c) formed = formed.1
reason_spelled (refusal.Back c) formed = tt
reason_spelled (refusal.Cycle ids) formed = tt
reason_spelled (refusal.Full n) formed = formed
reason_spelled refusal.OutOfMemory formed = formed

pub reply_spelled : (r : Reply) → IsFormedReply r → IsSpelledReply r
reply_spelled (reply.Ok n) formed = tt
reply_spelled (reply.Refused at) formed = reason_spelled at.why formed.1
reply_spelled (reply.Time n x) formed = tt
reply_spelled (reply.Cost n c) formed = tt
reply_spelled (reply.Read n) formed = tt
reply_spelled (reply.Planned plan) formed = tt
reply_spelled (reply.Solved plan) formed = absurd formed
reply_spelled (reply.Old n) formed = tt
reply_spelled reply.NoPlan formed = tt
reply_spelled reply.Plans formed = tt
reply_spelled (reply.Range b) formed = tt

-- ---- replies

module _ (s : Setting) (history : List Entry) (sound : IsSound s history) (feed : ℕ) (before : List LogItem) (line : ℕ) where
  pub rows_within : (n : ℕ) → n ≤ length history → RowsAreWithinLimits (rows_after s history n)
  rows_within n low = legal_within s.net s.start history sound.legal sound.start n low

  carry_fits : (at : At Refusal) (latest : Option Chosen) →
      IsSomeAnd latest (λ plan. IsRefused s history at.entry (carried s history at.entry plan.choices) at.why) → IsFormedReason at.why → FitsReason at.why
  carry_fits at None is reason = absurd is
  carry_fits at (Some plan) is reason =
      adopted_reason_fits s.net (rows_after s history at.entry) at.entry (free_among s.net (rows_after s history at.entry) plan.choices) at.why
      (rows_within at.entry is.within) is.refuses reason

  refusal_fits : (said : Line) (at : At Refusal) → IsFormedSaid said → IsTrueReply s history feed before line said (reply.Refused at) → IsFormedReason at.why → FitsReason at.why
  refusal_fits (Say m) at formed is reason = said_reason_fits s.net (rows_after s history at.entry) at.entry m at.why formed.spelled formed.fits (rows_within at.entry is.within) is.refuses reason
  refusal_fits (AskTime event) at formed is reason = unknown_fits at.why event is.is_why reason
  refusal_fits AskCost at formed is reason = absurd is
  refusal_fits (AskPlan budget) at formed is reason = absurd is
  refusal_fits (AskSolve budget) at formed is reason = absurd is
  refusal_fits AskAdopt at formed is reason = full_fits history at.entry at.why (latest_plan before) is
  refusal_fits AskCarry at formed is reason = carry_fits at (latest_plan before) is reason
  refusal_fits AskRead at formed is reason = absurd is

  time_fits : (said : Line) (n x : ℕ) → IsTrueReply s history feed before line said (reply.Time n x) → x ≤ largest_value
  time_fits (Say m) n x is = absurd is
  time_fits (AskTime event) n x is =
      let low = least_low s.net (rows_after s history n) is.times sound.network sound.limits (rows_within n is.within) is.least is.place in
      let same = is.is_time in
      omega (arith, low, same)
  time_fits AskCost n x is = absurd is
  time_fits (AskPlan budget) n x is = absurd is
  time_fits (AskSolve budget) n x is = absurd is
  time_fits AskAdopt n x is = absurd is
  time_fits AskCarry n x is = absurd is
  time_fits AskRead n x is = absurd is

  budget_fits : (said : Line) (b : ℕ) → IsFormedSaid said → IsTrueReply s history feed before line said (reply.Range b) → b ≤ largest_value
  budget_fits (Say m) b formed is = absurd is
  budget_fits (AskTime event) b formed is = absurd is
  budget_fits AskCost b formed is = absurd is
  budget_fits (AskPlan budget) b formed is = let low : budget ≤ largest_value = formed.fits 1 (id 0) (omega arith) in let same = is.1 in omega arith
  budget_fits (AskSolve budget) b formed is = let low : budget ≤ largest_value = formed.fits 1 (id 0) (omega arith) in let same = is.1 in omega arith
  budget_fits AskAdopt b formed is = absurd is
  budget_fits AskCarry b formed is = absurd is
  budget_fits AskRead b formed is = absurd is

  pub reply_fits : (said : Line) (r : Reply) → IsFormedSaid said → IsTrueReply s history feed before line said r → IsFormedReply r → FitsReply r
  reply_fits said (reply.Ok n) formed is form = form
  reply_fits said (reply.Refused at) formed is form = (form.0, refusal_fits said at formed is form.1)
  reply_fits said (reply.Time n x) formed is form = (form.0, time_fits said n x is)
  reply_fits said (reply.Cost n c) formed is form = form
  reply_fits said (reply.Read n) formed is form = form
  reply_fits said (reply.Planned plan) formed is form = absurd form
  reply_fits said (reply.Solved plan) formed is form = absurd form
  reply_fits said (reply.Old n) formed is form = form
  reply_fits said reply.NoPlan formed is form = tt
  reply_fits said reply.Plans formed is form = tt
  reply_fits said (reply.Range b) formed is form = budget_fits said b formed is

-- an item with a value that is too large for its type is not the next one
pub too_large_is_false : (s : Setting) (history : List Entry) → IsSound s history → (feed : ℕ) (before : List LogItem) (version : ℕ) (line : List ℕ) (answered : LogItem) →
    IsItemLine version (lone answered) line → (IsSmallItem answered → ⊥) → IsNextItem s history feed before answered → ⊥
too_large_is_false s history sound feed before version line (Malformed n) is large next = large tt
too_large_is_false s history sound feed before version line (Answered n said r) is large next =
    large (small_reply r (reply_fits s history sound feed before n said r is.1.1 next.is_true is.1.2))
