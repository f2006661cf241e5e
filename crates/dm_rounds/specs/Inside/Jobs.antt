-- States of feeds that are answered in rounds.
use Rattle.std.specs.Prelude.{ℕ, ◌≡◌, ◌+◌, ◌*◌, ◌/◌, ◌<◌, ◌≤◌, List, [], length, count_by, sum_by, slice_get, All, Option, Some, None}
use Rattle.dm_feed.specs.declared.feed.FeedStop.{FeedStop}
use Rattle.dm_feed.specs.declared.feed.FeedStop.TheVariants.{End, Fault}
use Rattle.dm_feed.specs.Feeds.{ReaderValue}
use Rattle.dm_cert.specs.declared.replies.LogItem.{LogItem}
use Rattle.dm_cert.specs.declared.replies.FeedLog.{FeedLog}
use Rattle.dm_cert.specs.Logs.{kind_of, number_in, IsInOrder, names}
use Rattle.dm_cert.specs.RunTexts.{IsSpelledItem}
use Rattle.dm_desk.specs.Desks.{DeskValue, GoesOn}
use Rattle.dm_desk.specs.Answered.{times, IsOpen, AreTrueOf, IsAnswered, AnswersBatch}
use Rattle.dm_rounds.specs.declared.jobs.Progress.{Progress}
use Rattle.dm_rounds.specs.declared.jobs.Progress.TheVariants.{Reading, Ended}
use Rattle.dm_rounds.specs.declared.jobs.Job.{Job}
use Rattle.dm_rounds.specs.Rounds.{IsLogFor}

-- a reader that has taken nothing yet
abbrev pub new_reader : {S : Type 0} → S → ReaderValue S
new_reader source = record { source = source; pending = []; taken = 0; lines = 0; stop = None }

-- ---- one job

-- so far its log answers what its reader has given
pub record IsReading {S : Type 0} (left : S → Option (List ℕ)) (is_sound : S → Type 0) (source : S) (reader : ReaderValue S)
    (desk : DeskValue) (feed : ℕ) (items : List LogItem) : Type 0 where
  pub answered : IsAnswered left (new_reader source) reader desk feed items
  pub is_open : IsOpen reader
  pub sound : is_sound source → is_sound reader.source

-- its log is whole, and true of what the desk has seen
pub record IsFinished {S : Type 0} (left : S → Option (List ℕ)) (is_sound : S → Type 0) (feed : Option S) (desk : DeskValue)
    (number : ℕ) (items : List LogItem) (stop : FeedStop) : Type 0 where
  pub log_for : IsLogFor left is_sound feed (record { items = items; stop = stop })
  pub answers : AreTrueOf desk number items
  pub in_order : IsInOrder 0 0 items
  pub spelled : All IsSpelledItem items

abbrev pub IsJob : {S : Type 0} → (S → Option (List ℕ)) → (S → Type 0) → Option S → DeskValue → ℕ → Progress S → List LogItem → Type 0
IsJob left is_sound (Some source) desk number (Reading reader) items = IsReading left is_sound source reader desk number items
IsJob left is_sound None desk number (Reading reader) items = ⊥
IsJob left is_sound feed desk number (Ended stop) items = IsFinished left is_sound feed desk number items stop

-- its reader may be asked
abbrev pub CanRead : {S : Type 0} → Progress S → Type 0
CanRead (Reading reader) = IsOpen reader
CanRead (Ended stop) = Unit {0}

abbrev pub progress_after : {S : Type 0} → ReaderValue S → Option FeedStop → Progress S
progress_after reader None = Reading reader
progress_after reader (Some stop) = Ended stop

-- the next lines were answered
pub record Advances {S : Type 0} (left : S → Option (List ℕ)) (is_sound : S → Type 0) (reader : ReaderValue S)
    (items : List LogItem) (after : Job S) (before now : DeskValue) (feed batch : ℕ) : Type 0 where
  pub then : ReaderValue S
  pub stop : Option FeedStop
  pub answers : AnswersBatch left is_sound reader then before now feed batch items after.log.items stop
  pub sound : is_sound reader.source → is_sound then.source
  pub progress : after.progress ≡ progress_after then stop

-- nothing was done
pub record Stays {S : Type 0} (stop : FeedStop) (items : List LogItem) (after : Job S) (before now : DeskValue) : Type 0 where
  pub progress : after.progress ≡ Ended stop
  pub log : after.log.items ≡ items
  pub desk : now ≡ before

abbrev pub StepsFrom : {S : Type 0} → (S → Option (List ℕ)) → (S → Type 0) → Progress S → List LogItem → Job S → DeskValue →
    DeskValue → ℕ → ℕ → Type 0
StepsFrom left is_sound (Reading reader) items after before now feed batch = Advances left is_sound reader items after before now feed batch
StepsFrom left is_sound (Ended stop) items after before now feed batch = Stays stop items after before now

-- ---- all jobs

-- the item at this place of a job's log, both from 0, has this entry number
pub record NumberIn {S : Type 0} (jobs : List (Job S)) (k a n : ℕ) : Type 0 where
  pub job : Job S
  pub stands : slice_get jobs k ≡ Some job
  pub answered : LogItem
  pub is_item : slice_get job.log.items a ≡ Some answered
  pub number : number_in (kind_of answered) ≡ Some n

abbrev pub job_names : {S : Type 0} → ℕ → Job S → ℕ
job_names n job = count_by (names n) job.log.items

-- so many rounds have been answered, all of them where the feed has not ended
abbrev pub IsPaced : {S : Type 0} → ℕ → ℕ → Progress S → List LogItem → Type 0
IsPaced batch rounds (Reading reader) items = length items ≡ rounds * batch
IsPaced batch rounds (Ended stop) items = length items ≤ rounds * batch

-- In a round, before which so many rounds and so many entries were, the jobs below a place have been answered.
pub record RoundState {S : Type 0} (left : S → Option (List ℕ)) (is_sound : S → Type 0) (feeds : List (Option S))
    (first : DeskValue) (batch rounds low : ℕ) (desk : DeskValue) (jobs : List (Job S)) (place : ℕ) : Type 0 where
  pub goes_on : GoesOn first desk
  pub as_many : length jobs ≡ length feeds
  pub each : (k : ℕ) (feed : Option S) (job : Job S) → slice_get feeds k ≡ Some feed → slice_get jobs k ≡ Some job →
      IsJob left is_sound feed desk (k + 1) job.progress job.log.items
  pub named : (n : ℕ) → sum_by (job_names n) jobs + times n first.mine ≡ times n desk.mine
  pub done : (k : ℕ) (job : Job S) → k < place → slice_get jobs k ≡ Some job → IsPaced batch (rounds + 1) job.progress job.log.items
  pub ahead : (k : ℕ) (job : Job S) → place ≤ k → slice_get jobs k ≡ Some job → IsPaced batch rounds job.progress job.log.items
  pub earlier : (k a n : ℕ) → a < rounds * batch → NumberIn jobs k a n → n ≤ low
  pub below : low ≤ length desk.seen
  pub kept : (k a l b m n : ℕ) → NumberIn jobs k a m → NumberIn jobs l b n → a / batch < b / batch → m ≤ n

-- every reader may be asked
abbrev pub CanReadAll : {S : Type 0} → List (Job S) → Type 0
CanReadAll jobs = (k : ℕ) (job : Job _) → slice_get jobs k ≡ Some job → CanRead job.progress

-- every log is true of what the desk has seen
abbrev pub AllAreTrue : {S : Type 0} → DeskValue → List (Job S) → Type 0
AllAreTrue desk jobs = (k : ℕ) (job : Job _) → slice_get jobs k ≡ Some job → AreTrueOf desk (k + 1) job.log.items

-- one round more was answered
abbrev pub AnswersRound : {S : Type 0} → (S → Option (List ℕ)) → (S → Type 0) → ℕ → DeskValue → List (Job S) → DeskValue →
    List (Job S) → Type 0
AnswersRound left is_sound batch before jobs now after =
    (feeds : List (Option _)) (first : DeskValue) (rounds low : ℕ) → RoundState left is_sound feeds first batch rounds low before jobs 0
    → RoundState left is_sound feeds first batch (rounds + 1) (length now.seen) now after 0

-- a job begins with its feed, or has ended where that could not be opened
abbrev pub Begins : {S : Type 0} → Option S → Job S → Type 0
Begins (Some source) job = (job.progress ≡ Reading (new_reader source)) × (job.log.items ≡ [])
Begins None job = (job.progress ≡ Ended Fault) × (job.log.items ≡ [])

pub record BeginAll {S : Type 0} (feeds : List (Option S)) (jobs : List (Job S)) : Type 0 where
  pub as_many : length jobs ≡ length feeds
  pub each : (k : ℕ) (feed : Option S) (job : Job S) → slice_get feeds k ≡ Some feed → slice_get jobs k ≡ Some job → Begins feed job

abbrev pub HasEnded : {S : Type 0} → Progress S → Type 0
HasEnded (Reading reader) = ⊥
HasEnded (Ended stop) = Unit {0}

-- the stop of a feed that has ended
abbrev pub stop_in : {S : Type 0} → Progress S → FeedStop
stop_in (Reading reader) = End
stop_in (Ended stop) = stop

abbrev pub log_in : {S : Type 0} → Job S → FeedLog
log_in job = record { items = job.log.items; stop = stop_in job.progress }

-- what stands in a state of rounds that have begun
pub record InRounds {S : Type 0} (left : S → Option (List ℕ)) (is_sound : S → Type 0) (feeds : List (Option S))
    (first : DeskValue) (batch : ℕ) (desk : DeskValue) (jobs : List (Job S)) : Type 0 where
  pub rounds : ℕ
  pub low : ℕ
  pub state : RoundState left is_sound feeds first batch rounds low desk jobs 0
