-- What the definitions give on the two small networks, as computed by hand.
use Rattle.std.specs.Prelude.{ℕ, ◌≡◌, ◌↔◌, false, [], ◌∷◌, Contains}
use Rattle.dm_base.specs.declared.limits.TheConstants.{ENTRIES}
use Rattle.dm_rows.specs.declared.messages.Change.TheVariants.{EventDelay, ActDelay, Passed as PassedAt, Clock, Cancelled as CancelledAt}
use Rattle.dm_rows.specs.declared.messages.Choice.TheVariants.{Change, Pair}
use Rattle.dm_rows.specs.declared.messages.Message.TheVariants.{DelayEvent, Pass, Recall, Keep, Drop, First, Now, Cancel, Restore, Lock, Unlock}
use Rattle.dm_rows.specs.declared.messages.Refusal.TheVariants.{Range, UnknownEvent, UnknownActivity, UnknownChange, UnknownPair, Passed, NotPassed, Cancelled, NotCancelled, Locked, NotLocked, Back, Cycle, Full}
use Rattle.dm_rows.specs.Active.{ShowsCycle}
use Rattle.dm_rows.specs.Cost.{cost_of, cost_charging}
use Rattle.dm_rows.specs.Decide.{free_choices_of}
use Rattle.dm_rows.specs.Examples.{event_id, activity_id, connection, turnaround, at_start, turnaround_at_start, delayed, with_drop, with_second_first, with_passed, with_clock, arrived, recalled, scheduled, without, ends_early, leaves_again, runs_again, with_change_locked, with_pair_locked, turned_free}
use Rattle.dm_rows.specs.Refuse.{Refuses}
use Rattle.dm_rows.specs.Relax.{is_relaxed_lost, violated_choices_of}
use Rattle.dm_rows.specs.Rows.{is_cancelled}
use Rattle.dm_rows.specs.Resolve.{after}
use Rattle.dm_rows.specs.Timetable.{IsLeast}
use Rattle.dm_rows.specs.Touch.{IsTouched}

-- what the four choices cost on the connection when event 1 is 60 seconds late, with penalty 10
pub record CostsOfChoices : Type 0 where
  pub kept : cost_of connection delayed (160 ∷ 250 ∷ 260 ∷ 340 ∷ 270 ∷ 365 ∷ []) 10 ≡ 1075000
  pub kept_second_first :
      cost_of connection (with_second_first delayed) (160 ∷ 250 ∷ 278 ∷ 358 ∷ 270 ∷ 365 ∷ []) 10 ≡ 1255000
  pub dropped : cost_of connection (with_drop delayed) (160 ∷ 250 ∷ 260 ∷ 340 ∷ 268 ∷ 363 ∷ []) 10 ≡ 1105000
  pub dropped_second_first :
      cost_of connection (with_second_first (with_drop delayed)) (160 ∷ 250 ∷ 260 ∷ 340 ∷ 230 ∷ 330 ∷ []) 10 ≡ 940000

-- a change that its passed head has missed costs the penalty, kept or dropped, and nothing where it is met
pub record CostsOfMisses : Type 0 where
  pub missed : cost_of connection (with_passed 231 delayed) (160 ∷ 250 ∷ 260 ∷ 340 ∷ 231 ∷ 330 ∷ []) 10 ≡ 940000
  pub missed_dropped : cost_of connection (with_passed 215 (with_drop at_start)) (100 ∷ 200 ∷ 223 ∷ 303 ∷ 215 ∷ 330 ∷ []) 10 ≡ 70000
  pub met : cost_of connection (with_passed 400 at_start) (100 ∷ 200 ∷ 408 ∷ 488 ∷ 400 ∷ 495 ∷ []) 10 ≡ 2705000

-- the least times of the connection: at the start, with event 1 a minute late, at the time 240, at that time with events 1
-- and 2 passed, and with event 2 recalled
pub record LeastTimes : Type 0 where
  pub start : IsLeast connection at_start scheduled
  pub late : IsLeast connection delayed (160 ∷ 250 ∷ 260 ∷ 340 ∷ 270 ∷ 365 ∷ [])
  pub clock : IsLeast connection (with_clock 240 at_start) (240 ∷ 330 ∷ 340 ∷ 420 ∷ 350 ∷ 445 ∷ [])
  pub passed : IsLeast connection arrived (100 ∷ 200 ∷ 240 ∷ 320 ∷ 248 ∷ 343 ∷ [])
  pub recall : IsLeast connection recalled (100 ∷ 240 ∷ 250 ∷ 330 ∷ 260 ∷ 355 ∷ [])

-- what the last three cost, with penalty 10
pub record CostsOfClocks : Type 0 where
  pub clock : cost_of connection (with_clock 240 at_start) (240 ∷ 330 ∷ 340 ∷ 420 ∷ 350 ∷ 445 ∷ []) 10 ≡ 3075000
  pub passed : cost_of connection arrived (100 ∷ 200 ∷ 240 ∷ 320 ∷ 248 ∷ 343 ∷ []) 10 ≡ 265000
  pub recall : cost_of connection recalled (100 ∷ 240 ∷ 250 ∷ 330 ∷ 260 ∷ 355 ∷ []) 10 ≡ 825000

-- the least times where the first train ends at the station, leaves it again, and arrives again; and of the turnaround network
-- where nothing waits for the cancelled arrival
pub record LeastTimesOfCancelled : Type 0 where
  pub ends_early : IsLeast connection ends_early (200 ∷ 290 ∷ 220 ∷ 300 ∷ 310 ∷ 405 ∷ [])
  pub leaves_again : IsLeast connection leaves_again (200 ∷ 290 ∷ 300 ∷ 300 ∷ 310 ∷ 405 ∷ [])
  pub runs_again : IsLeast connection runs_again (200 ∷ 290 ∷ 300 ∷ 380 ∷ 310 ∷ 405 ∷ [])
  pub turned_free : IsLeast turnaround turned_free (100 ∷ 200 ∷ 348 ∷ 300 ∷ 340 ∷ 440 ∷ [])

-- What these cost, with penalty 10: the passengers of a cancelled arrival are charged once, and so are those of a change with a
-- cancelled end, whether its head is still to come or has passed.
pub record CostsOfCancelled : Type 0 where
  pub ends_early : cost_of connection ends_early (200 ∷ 290 ∷ 220 ∷ 300 ∷ 310 ∷ 405 ∷ []) 10 ≡ 1375000
  pub leaves_again : cost_of connection leaves_again (200 ∷ 290 ∷ 300 ∷ 300 ∷ 310 ∷ 405 ∷ []) 10 ≡ 1375000
  pub runs_again : cost_of connection runs_again (200 ∷ 290 ∷ 300 ∷ 380 ∷ 310 ∷ 405 ∷ []) 10 ≡ 2075000
  pub departure : cost_of connection (without 3 at_start) scheduled 10 ≡ 0
  pub lost_change : cost_of connection (without 2 at_start) scheduled 10 ≡ 140000
  pub lost_once : cost_of connection (without 2 (with_drop at_start)) scheduled 10 ≡ 140000
  pub missed : cost_of connection (without 2 (with_passed 231 at_start)) (100 ∷ 200 ∷ 239 ∷ 319 ∷ 231 ∷ 330 ∷ []) 10 ≡ 330000
  pub turned_free : cost_of turnaround turned_free (100 ∷ 200 ∷ 348 ∷ 300 ∷ 340 ∷ 440 ∷ []) 10 ≡ 100000

-- An event that passes is no longer cancelled.
pub record PassedIsNotCancelled : Type 0 where
  pub not_cancelled : is_cancelled (after connection (without 2 at_start) (Pass (event_id 2) 200)) 1 ≡ false
  pub not_recalled :
      is_cancelled (after connection (after connection (without 2 at_start) (Pass (event_id 2) 200)) (Recall (event_id 2))) 1
      ≡ false

-- what is free where events are cancelled or choices locked
pub record FreeOfCancelledAndLocked : Type 0 where
  pub ends_early : free_choices_of connection ends_early ≡ Change (activity_id 5) ∷ []
  pub without_tail : free_choices_of connection (without 2 at_start) ≡ Pair (event_id 3) (event_id 5) ∷ []
  pub change_locked : free_choices_of connection (with_change_locked at_start) ≡ Pair (event_id 3) (event_id 5) ∷ []
  pub pair_locked : free_choices_of connection (with_pair_locked at_start) ≡ Change (activity_id 5) ∷ []

-- messages that are refused for a cancelled event or a lock: after the ids and what has passed, and the first event named
pub record RefusedForCancelled : Type 0 where
  pub again : Refuses connection (without 2 at_start) 1 (Cancel (event_id 2)) (Cancelled (event_id 2))
  pub not_cancelled : Refuses connection at_start 0 (Restore (event_id 2)) (NotCancelled (event_id 2))
  pub passed : Refuses connection arrived 3 (Cancel (event_id 1)) (Passed (event_id 1) 100)
  pub unknown : Refuses connection at_start 0 (Cancel (event_id 9)) (UnknownEvent (event_id 9))
  pub recalled : Refuses connection (without 2 at_start) 1 (Recall (event_id 2)) (NotPassed (event_id 2))
  pub tail : Refuses connection (without 5 (without 2 at_start)) 2 (Drop (activity_id 5)) (Cancelled (event_id 2))
  pub head : Refuses connection (without 5 at_start) 1 (Keep (activity_id 5)) (Cancelled (event_id 5))
  pub first_named : Refuses connection (without 5 (without 3 at_start)) 2 (First (event_id 5) (event_id 3)) (Cancelled (event_id 5))
  pub second_named : Refuses connection (without 3 at_start) 1 (First (event_id 5) (event_id 3)) (Cancelled (event_id 3))
  pub after_passed :
      Refuses connection (with_passed 231 (without 3 at_start)) 2 (First (event_id 3) (event_id 5)) (Passed (event_id 5) 231)
  pub lock_of_cancelled : Refuses connection (without 2 at_start) 1 (Lock (Change (activity_id 5))) (Cancelled (event_id 2))

pub record RefusedForLocks : Type 0 where
  pub dropped : Refuses connection (with_change_locked delayed) 2 (Drop (activity_id 5)) (Locked (Change (activity_id 5)))
  pub unchanged : Refuses connection (with_change_locked at_start) 1 (Keep (activity_id 5)) (Locked (Change (activity_id 5)))
  pub turned :
      Refuses connection (with_pair_locked at_start) 1 (First (event_id 5) (event_id 3)) (Locked (Pair (event_id 3) (event_id 5)))
  pub again : Refuses connection (with_change_locked at_start) 1 (Lock (Change (activity_id 5))) (Locked (Change (activity_id 5)))
  pub not_locked : Refuses connection at_start 0 (Unlock (Change (activity_id 5))) (NotLocked (Change (activity_id 5)))
  pub pair_not_locked :
      Refuses connection at_start 0 (Unlock (Pair (event_id 3) (event_id 5))) (NotLocked (Pair (event_id 3) (event_id 5)))
  pub no_activity : Refuses connection at_start 0 (Lock (Change (activity_id 9))) (UnknownActivity (activity_id 9))
  pub no_change : Refuses connection at_start 0 (Lock (Change (activity_id 4))) (UnknownChange (activity_id 4))
  pub no_pair : Refuses connection at_start 0 (Lock (Pair (event_id 5) (event_id 5))) (UnknownPair (event_id 5) (event_id 5))

-- Where the arrival is cancelled the second train may go first; restoring the arrival would then close a cycle.
pub record RestoredCycle : Type 0 where
  pub told :
      Refuses turnaround turned_free 2 (Restore (event_id 4)) (Cycle (activity_id 3 ∷ activity_id 8 ∷ activity_id 7 ∷ []))

-- The change and the pair of the connection are free at the start. With nothing decided and event 1 a minute late, the
-- change is violated in the relaxed times and the pair is not; and a change that the rows have dropped is not charged for.
pub record FreeAndViolated : Type 0 where
  pub free : free_choices_of connection at_start ≡ Change (activity_id 5) ∷ Pair (event_id 3) (event_id 5) ∷ []
  pub violated :
      violated_choices_of connection delayed [] (160 ∷ 250 ∷ 260 ∷ 340 ∷ 230 ∷ 330 ∷ []) ≡ Change (activity_id 5) ∷ []
  pub cost :
      cost_charging connection (with_drop delayed) (is_relaxed_lost connection (with_drop delayed) [])
      (160 ∷ 250 ∷ 260 ∷ 340 ∷ 230 ∷ 330 ∷ []) 10
      ≡ 900000

-- messages that the connection refuses, a number before an unknown id
pub record RefusedMessages : Type 0 where
  pub event : Refuses connection at_start 0 (DelayEvent (event_id 9) 1) (UnknownEvent (event_id 9))
  pub delay : Refuses connection at_start 0 (DelayEvent (event_id 1) 1000001) (Range 1000001)
  pub both : Refuses connection at_start 0 (DelayEvent (event_id 9) 1000001) (Range 1000001)
  pub no_change : Refuses connection at_start 0 (Keep (activity_id 4)) (UnknownChange (activity_id 4))
  pub activity : Refuses connection at_start 0 (Keep (activity_id 9)) (UnknownActivity (activity_id 9))
  pub pair : Refuses connection at_start 0 (First (event_id 1) (event_id 2)) (UnknownPair (event_id 1) (event_id 2))
  pub back : Refuses connection (with_clock 240 at_start) 1 (Now 239) (Back 240)
  pub clock : Refuses connection (with_clock 240 at_start) 1 (Now 2000000001) (Range 2000000001)

-- With the second train first the turnaround network has a cycle, which is told before a full history.
pub record RefusedCycle : Type 0 where
  pub shown :
      ShowsCycle turnaround (after turnaround turnaround_at_start (First (event_id 5) (event_id 3)))
      (activity_id 3 ∷ activity_id 8 ∷ activity_id 7 ∷ [])
  pub told :
      Refuses turnaround turnaround_at_start ENTRIES (First (event_id 5) (event_id 3))
      (Cycle (activity_id 3 ∷ activity_id 8 ∷ activity_id 7 ∷ []))
  pub before_full : (n k : ℕ) → Refuses turnaround turnaround_at_start n (First (event_id 5) (event_id 3)) (Full k) → ⊥

-- What changes of the connection touch, from the scheduled times: the event itself; the head of the activity; the event and
-- the heads of its drive and of the headway that it now binds by; each event before the clock.
pub record TouchedEvents : Type 0 where
  pub event_delay : (i : ℕ) → IsTouched connection delayed (EventDelay 0 60) scheduled i ↔ Contains (0 ∷ []) i
  pub activity_delay : (i : ℕ) → IsTouched connection at_start (ActDelay 2 10) scheduled i ↔ Contains (3 ∷ []) i
  pub passed : (i : ℕ) →
      IsTouched connection (with_passed 231 at_start) (PassedAt 4 231) scheduled i ↔ Contains (2 ∷ 4 ∷ 5 ∷ []) i
  pub cancelled : (i : ℕ) →
      IsTouched connection (without 2 at_start) (CancelledAt 1) scheduled i ↔ Contains (1 ∷ 2 ∷ 4 ∷ []) i
  pub clock : (i : ℕ) →
      IsTouched connection (with_clock 240 at_start) (Clock 240) scheduled i ↔ Contains (0 ∷ 1 ∷ 2 ∷ 4 ∷ []) i
