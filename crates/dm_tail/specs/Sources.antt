-- What logs answer of the bytes that feeds are given.
use Rattle.std.specs.Prelude.{ℕ, ◌≡◌, List, ◌++◌, length, map, slice_get, Option, Some, IfSome}
use mathlib.Core.List.{IsPrefix}
use Rattle.dm_feed.specs.DueItems.{AreDueItems, lines_of}
use Rattle.dm_feed.specs.Feeds.{IsUnended}
use Rattle.dm_feed.specs.Joined.{AreWhole}
use Rattle.dm_cert.specs.declared.replies.LogItem.{LogItem}
use Rattle.dm_cert.specs.Logs.{due_of}
use Rattle.dm_tail.specs.declared.watched.Watched.{Watched}

-- the source of a feed
abbrev pub source_in : {T : Type 0} → (T → Option (List ℕ)) → Watched T → Option (List ℕ)
source_in source watched = source watched.tail.feed

-- A log answers the due lines of a front of the bytes, which ends with a line feed: none is skipped, none is answered twice, and they
-- are in order.
pub record AnswersFront (bytes : Option (List ℕ)) (items : List LogItem) : Type 0 where
  pub front : List ℕ
  pub whole : AreWhole front
  pub due : AreDueItems 0 (lines_of front) (map due_of items)
  pub is_front : IfSome bytes (IsPrefix front)

-- So of all lines of the bytes that end: what is left behind them is at most the beginning of a line.
pub record AnswersWhole (bytes : Option (List ℕ)) (items : List LogItem) : Type 0 where
  pub front : List ℕ
  pub rest : List ℕ
  pub whole : AreWhole front
  pub due : AreDueItems 0 (lines_of front) (map due_of items)
  pub is_all : IfSome bytes (λ all. all ≡ front ++ rest)
  pub unended : IsUnended rest

-- there is a log for each feed, and each answers so a front of its own feed's bytes
pub record AnswerFronts (sources : List (Option (List ℕ))) (logs : List (List LogItem)) : Type 0 where
  pub as_many : length logs ≡ length sources
  pub each : (place : ℕ) (source : Option (List ℕ)) (items : List LogItem) → slice_get sources place ≡ Some source →
      slice_get logs place ≡ Some items → AnswersFront source items
