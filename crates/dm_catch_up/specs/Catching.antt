-- Feeds that are caught up with.
use Rattle.std.specs.Prelude.{ℕ, ◌≡◌, List, [], Option, IfSome}
use Rattle.dm_outside.specs.Faults.{HasRisen}
use Rattle.dm_cert.specs.declared.replies.LogItem.{LogItem}
use Rattle.dm_tail.specs.Watching.{KnowsLines}
use Rattle.dm_tail.specs.declared.watched.Watched.{Watched}
use Rattle.dm_catch_up.specs.Feeds.{DiffersAt}
use Rattle.dm_catch_up.specs.declared.catching.CatchUpStop.{CatchUpStop}
use Rattle.dm_catch_up.specs.declared.catching.CatchUpStop.TheVariants as stop

-- nothing was read of the feed
pub record IsFresh {T : Type 0} (given : T → Option (List ℕ)) (watched : Watched T) : Type 0 where
  pub none : IfSome (given watched.tail.feed) (λ bytes. bytes ≡ [])
  pub pending : watched.tail.pending.items ≡ []
  pub taken : watched.tail.taken ≡ 0
  pub knows : KnowsLines watched.tail
  pub lines : watched.lines ≡ 0

-- why a feed does not go on with these items
abbrev pub RefusesFeed : {T : Type 0} → (T → Option (List ℕ)) → (T → ℕ) → List LogItem → Watched T → Watched T → CatchUpStop → Type 0
RefusesFeed given faults items before now stop.OutOfMemory = Unit {0}
RefusesFeed given faults items before now stop.Fault = HasRisen (faults before.tail.feed) (faults now.tail.feed)
RefusesFeed given faults items before now (stop.Changed line) = IfSome (given now.tail.feed) (λ bytes. DiffersAt bytes items line)
