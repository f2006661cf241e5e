-- What of a feed that grows is pending, and what was answered. A feed is seen through given: all the bytes that it has given, where
-- it tells them.
use Rattle.std.specs.Prelude.{ℕ, ◌≡◌, ◌+◌, ◌<◌, ◌≤◌, ◌⊎◌, false, List, ◌++◌, length, Option, Some, None, IfSome}
use Rattle.dm_feed.specs.declared.feed.FeedStop.{FeedStop}
use Rattle.dm_feed.specs.declared.feed.FeedStop.TheVariants.{Fault, Long}
use Rattle.dm_feed.specs.Feeds.{IsUnended}
use Rattle.dm_outside.specs.Faults.{HasRisen}
use Rattle.dm_cert.specs.declared.replies.LogItem.{LogItem}
use Rattle.dm_desk.specs.Desks.{DeskValue}
use Rattle.dm_desk.specs.Answered.{AnswersMore}
use Rattle.dm_desk.specs.Fed.{IsFed}
use Rattle.dm_tail.specs.Given.{given_behind}
use Rattle.dm_tail.specs.declared.tail.Tail.{Tail}
use Rattle.dm_tail.specs.declared.watched.Watched.{Watched}

-- the most bytes that are read of a feed
abbrev pub largest_feed : ℕ
largest_feed = 67108864

-- ---- reading

-- So many bytes more were read: they stand behind what was pending, and behind what the feed had given.
pub record Takes {T : Type 0} (given : T → Option (List ℕ)) (before now : Tail T) (count : ℕ) : Type 0 where
  pub more : List ℕ
  pub pending : now.pending.items ≡ before.pending.items ++ more
  pub gave : given now.feed ≡ given_behind (given before.feed) more
  pub size : count ≡ length more
  pub taken : now.taken ≡ before.taken + count

-- A feed is read no further for the same as before, or since a read failed, or since as many bytes were read as may be.
abbrev pub HasCause : {T : Type 0} → (T → ℕ) → Tail T → Tail T → Option FeedStop → Type 0
HasCause faults before now None = Unit {0}
HasCause faults before now (Some stop) =
    (before.stop ≡ Some stop) ⊎ ((stop ≡ Fault) × HasRisen (faults before.feed) (faults now.feed))
    ⊎ ((stop ≡ Long) × (largest_feed ≤ now.taken))

-- no line that ends is pending unless the tail says that one may be
abbrev pub KnowsLines : {T : Type 0} → Tail T → Type 0
KnowsLines tail = tail.has_line ≡ false → IsUnended tail.pending.items

-- ---- answering

-- there are no more lines than bytes, and no more bytes than may be
pub record IsShort {T : Type 0} (watched : Watched T) : Type 0 where
  pub lines : watched.lines + length watched.tail.pending.items ≤ watched.tail.taken
  pub bytes : watched.tail.taken ≤ largest_feed

-- The lines that were passed are whole ones, which the log answers, each due line once and in order; what is pending stands behind
-- them, and all that is what the feed has given.
pub record IsWatched {T : Type 0} (given : T → Option (List ℕ)) (desk : DeskValue) (number : ℕ) (watched : Watched T) : Type 0 where
  pub front : List ℕ
  pub fed : IsFed front watched.lines desk number watched.log.items
  pub is_all : IfSome (given watched.tail.feed) (λ bytes. bytes ≡ front ++ watched.tail.pending.items)

-- The next due lines of the feed of this number were answered, so many at most, between two moments of a desk; fewer only where no
-- line that ends is left.
pub record Answers {T : Type 0} (given : T → Option (List ℕ)) (batch : ℕ) (desk_before desk : DeskValue) (number : ℕ)
    (before now : Watched T) : Type 0 where
  pub more : List LogItem
  pub behind : now.log.items ≡ before.log.items ++ more
  pub few : length more ≤ batch
  pub none_left : length more < batch → IsUnended now.tail.pending.items
  pub answers : AnswersMore desk_before desk more
  pub same : now.shown ≡ before.shown
  pub still : IsWatched given desk_before number before → IsWatched given desk number now
