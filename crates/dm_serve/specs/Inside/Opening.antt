-- Feeds as they are opened.
use Rattle.std.specs.Prelude.{◌≡◌, List, [], map, All, Option, Some, None, slice_get}
use Rattle.dm_words.specs.Serving.{ServerAsked}
use Rattle.dm_words.specs.ServerAsked.{server_of}
use Rattle.dm_tail.specs.declared.watched.Watched.{Watched}
use Rattle.dm_tail.specs.Watching.{KnowsLines}
use Rattle.dm_serve.specs.declared.opening.Unopened.{Unopened}
use Rattle.dm_serve.specs.declared.opening.Unopened.TheVariants.{OutOfMemory, Feed}
use Rattle.dm_serve.specs.declared.serving.Serving.{Serving}

-- what the words of a server ask for
abbrev pub asked_in : {R F : Type 0} → Serving R F → ServerAsked
asked_in serving = server_of serving.words.now

-- nothing was read of the feed, and nothing answered
pub record IsUnread {T : Type 0} (watched : Watched T) : Type 0 where
  pub pending : watched.tail.pending.items ≡ []
  pub taken : watched.tail.taken ≡ 0
  pub knows : KnowsLines watched.tail
  pub lines : watched.lines ≡ 0
  pub log : watched.log.items ≡ []

-- a feed that was opened
abbrev pub opened : {T : Type 0} → Watched T → Option T
opened watched = Some watched.tail.feed

-- each feed was opened, and nothing was read of it
pub record AreUnread {T : Type 0} (feeds : List (Option T)) (unread : List (Watched T)) : Type 0 where
  pub are : feeds ≡ map opened unread
  pub each : All IsUnread unread

-- why feeds are not read
abbrev pub IsUnopened : {T : Type 0} → List (Option T) → Unopened → Type 0
IsUnopened feeds OutOfMemory = Unit {0}
IsUnopened feeds (Feed place) = slice_get feeds place ≡ Some None
