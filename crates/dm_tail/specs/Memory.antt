-- What a feed in memory has given, and what it gives next.
use Rattle.std.specs.Prelude.{ℕ, ◌-◌, List, length, take, drop, min, Option, None, Some, slice_get}
use Rattle.std.proofs.Common.{take-append-drop}
use mathlib.Core.List.{IsPrefix}
use Rattle.dm_outside.specs.Calls.{IsListed}
use Rattle.dm_tail.specs.declared.memory.MemFeed.{MemFeed}

-- all that others append to it, before and later
abbrev pub bytes_of : MemFeed → List ℕ
bytes_of feed = feed.bytes.items

-- what it has given
abbrev pub given_of : MemFeed → List ℕ
given_of feed = take feed.at feed.bytes.items

-- what it has given is a front of them
pub gives_front : (feed : MemFeed) → IsPrefix (given_of feed) (bytes_of feed)
gives_front feed = (drop feed.at feed.bytes.items, take-append-drop feed.at feed.bytes.items)

-- how many of so many bytes stand, where a script tells it or not
abbrev pub stands_by : Option ℕ → ℕ → ℕ
stands_by None all = all
stands_by (Some stands) all = min stands all

-- how many bytes stand by the next read
abbrev pub stands_now : MemFeed → ℕ
stands_now feed = stands_by (slice_get feed.stands.items feed.reads) (length feed.bytes.items)

-- how many of them it has not given
abbrev pub left_now : MemFeed → ℕ
left_now feed = stands_now feed - feed.at

-- the next call is one of those that fail
abbrev pub IsListedNext : MemFeed → Type 0
IsListedNext feed = IsListed feed.calls.made feed.fails.items
