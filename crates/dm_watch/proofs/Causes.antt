-- Why a round was not finished.
use Rattle.std.proofs.Common.{◌≡◌, ℕ, ◌+◌, ◌<◌, ◌≤◌, List, ◌∷◌, ◌++◌, length, map, drop, Option, Result, Ok, Err, refl, subst, ◌∙◌, arith}
use Rattle.dm_outside.specs.Faults.{HasRisen}
use Rattle.dm_outside.proofs.Printing.{risen_since}
use Rattle.dm_store.specs.Calls.{HasCause}
use Rattle.dm_store.specs.Blocks.{block}
use Rattle.dm_store.specs.Journals.{largest_journal, IsOfCommit}
use Rattle.dm_store.specs.declared.faults.StoreError.{StoreError}
use Rattle.dm_store.specs.declared.faults.StoreError.TheVariants as error
use Rattle.dm_cert.specs.declared.replies.LogItem.{LogItem}
use Rattle.dm_desk.specs.Desks.{DeskValue}
use Rattle.dm_tape.specs.Rounds.{round_text}
use Rattle.dm_tail.specs.Feeds.{AnswersAll}
use Rattle.dm_tail.specs.declared.watched.Watched.{Watched}
use Rattle.dm_tail.proofs.AllFeeds.{stands_here}
use Rattle.dm_watch.specs.Settled.{LogParts, log_parts, new_items}
use Rattle.dm_watch.specs.Stops.{stop_of, IsCause, HasCauses, StopsRound}
use Rattle.dm_watch.specs.Inside.Causes.{IsStopOfFeed, IsStopOfFeeds, IsStopOfStore, IsStopOfSettling, HasCauseInStore, HasCauseToSettle}
use Rattle.dm_watch.specs.declared.stops.RoundStop.{RoundStop}
use Rattle.dm_watch.specs.declared.stops.RoundStop.TheVariants as stop
use Rattle.dm_watch.proofs.Synced.{same_of}

-- ---- feeds that are synced

pub unsynced_here : {T : Type 0} (faults : T → ℕ) (feeds yielded rest next : List (Watched T)) (watched : Watched T) (number : ℕ) (stopped : RoundStop) → rest ≡ watched ∷ next → yielded ++ rest ≡ feeds → number ≡ length yielded + 1
    → IsStopOfFeed faults watched number stopped → IsStopOfFeeds faults feeds stopped
unsynced_here faults feeds yielded rest next watched number stop.OutOfMemory is whole here s = tt
unsynced_here faults feeds yielded rest next watched number (stop.Unsynced n) is whole here s = record {
  place = length yielded;
  watched = watched;
  later = s.1.later;
  here = s.0 ∙ here;
  stands = stands_here yielded rest next feeds watched is whole;
  new = s.1.new;
  risen = s.1.risen;
}
unsynced_here faults feeds yielded rest next watched number stop.Failed is whole here s = absurd s
unsynced_here faults feeds yielded rest next watched number stop.Full is whole here s = absurd s

pub stop_of_feeds : {T : Type 0} (faults : T → ℕ) (before now end : ℕ) (feeds : List (Watched T)) (stopped : RoundStop) → before ≤ now → IsStopOfFeeds faults feeds stopped → IsCause faults before now end feeds stopped
stop_of_feeds faults before now end feeds stop.OutOfMemory low s = tt
stop_of_feeds faults before now end feeds (stop.Unsynced n) low s = s
stop_of_feeds faults before now end feeds stop.Failed low s = absurd s
stop_of_feeds faults before now end feeds stop.Full low s = absurd s

-- ---- a store's stops

pub stop_later : (first before now : ℕ) (stopped : RoundStop) → first ≤ before → IsStopOfStore before now stopped → IsStopOfStore first now stopped
stop_later first before now stop.OutOfMemory low s = tt
stop_later first before now (stop.Unsynced n) low s = absurd s
stop_later first before now stop.Failed low s = risen_since first before now low s
stop_later first before now stop.Full low s = absurd s

-- the stop of a call of the store
pub stop_in_store : {U : Type 0} (before now : ℕ) (e : StoreError) → HasCause {T = U} before now (Err e) → IsStopOfStore before now (stop_of e)
stop_in_store before now error.OutOfMemory h = tt
stop_in_store before now error.Failed h = h.failed refl
stop_in_store before now error.Full h = absurd h.known
stop_in_store before now error.NoJournal h = absurd h.known
stop_in_store before now error.OtherVersion h = absurd h.known
stop_in_store before now error.Broken h = absurd h.known
stop_in_store before now error.Unread h = absurd h.known

in_store_to_settle : {T : Type 0} (first before now end : ℕ) (feeds : List (Watched T)) (stopped : RoundStop) → first ≤ before → IsStopOfStore before now stopped → IsStopOfSettling first now end feeds stopped
in_store_to_settle first before now end feeds stop.OutOfMemory low s = tt
in_store_to_settle first before now end feeds (stop.Unsynced n) low s = absurd s
in_store_to_settle first before now end feeds stop.Failed low s = risen_since first before now low s
in_store_to_settle first before now end feeds stop.Full low s = absurd s

pub shows_to_settle : {T R : Type 0} (first before now end : ℕ) (feeds : List (Watched T)) (result : Result R RoundStop) → first ≤ before → HasCauseInStore before now result → HasCauseToSettle first now end feeds result
shows_to_settle first before now end feeds (Ok r) low h = record { later = omega (arith, low, h.later); stops = tt }
shows_to_settle first before now end feeds (Err stopped) low h = record { later = omega (arith, low, h.later); stops = in_store_to_settle first before now end feeds stopped low h.stops }

-- the stop of a commit of the feeds' new items
pub stop_of_commit : {T : Type 0} (before now end : ℕ) (feeds : List (Watched T)) (content : List ℕ) (e : StoreError) → content ≡ round_text (map new_items feeds) → IsOfCommit e → (e ≡ error.Failed → HasRisen before now)
    → (e ≡ error.Full → largest_journal < end + length (block content) + 1) → IsStopOfSettling before now end feeds (stop_of e)
stop_of_commit before now end feeds content error.OutOfMemory is known failed full = tt
stop_of_commit before now end feeds content error.Failed is known failed full = failed refl
stop_of_commit before now end feeds content error.Full is known failed full = subst (λ (l : List ℕ). largest_journal < end + length (block l) + 1) is (full refl)
stop_of_commit before now end feeds content error.NoJournal is known failed full = absurd known
stop_of_commit before now end feeds content error.OtherVersion is known failed full = absurd known
stop_of_commit before now end feeds content error.Broken is known failed full = absurd known
stop_of_commit before now end feeds content error.Unread is known failed full = absurd known

-- ---- feeds that were synced, and then settled

settling_cause : {T : Type 0} (given : T → Option (List ℕ)) (faults : T → ℕ) (before now end : ℕ) (feeds synced : List (Watched T)) (stopped : RoundStop) → map (log_parts given) synced ≡ map (log_parts given) feeds
    → IsStopOfSettling before now end synced stopped → IsCause faults before now end feeds stopped
settling_cause given faults before now end feeds synced stop.OutOfMemory same c = tt
settling_cause given faults before now end feeds synced (stop.Unsynced n) same c = absurd c
settling_cause given faults before now end feeds synced stop.Failed same c = c
settling_cause given faults before now end feeds synced stop.Full same c =
    subst (λ (l : List (List LogItem)). largest_journal < end + length (block (round_text l)) + 1) (same_of given feeds synced same (λ (p : LogParts). drop p.shown p.items)) c

pub settling_causes : {T R : Type 0} (given : T → Option (List ℕ)) (faults : T → ℕ) (before now end : ℕ) (feeds synced : List (Watched T)) (result : Result R RoundStop) → map (log_parts given) synced ≡ map (log_parts given) feeds
    → HasCauseToSettle before now end synced result → HasCauses faults before now end feeds result
settling_causes given faults before now end feeds synced (Ok r) same h = record { later = h.later; stops = tt }
settling_causes given faults before now end feeds synced (Err stopped) same h = record { later = h.later; stops = settling_cause given faults before now end feeds synced stopped same h.stops }

-- ---- in a round

pub stops_round : {T : Type 0} (given : T → Option (List ℕ)) (faults : T → ℕ) (before now end batch : ℕ) (desk desk_now : DeskValue) (feeds answered : List (Watched T)) (stopped : RoundStop) → AnswersAll given batch desk desk_now feeds answered
    → IsCause faults before now end answered stopped → StopsRound given faults before now end batch desk feeds stopped
stops_round given faults before now end batch desk desk_now feeds answered stop.OutOfMemory a c = tt
stops_round given faults before now end batch desk desk_now feeds answered (stop.Unsynced n) a c = record { desk_now = desk_now; answered = answered; answers = a; cause = c }
stops_round given faults before now end batch desk desk_now feeds answered stop.Failed a c = record { desk_now = desk_now; answered = answered; answers = a; cause = c }
stops_round given faults before now end batch desk desk_now feeds answered stop.Full a c = record { desk_now = desk_now; answered = answered; answers = a; cause = c }
