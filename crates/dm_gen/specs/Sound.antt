-- That nothing refuses a generated day: its records make a network, and each line of its feed delays an event of it.
use Rattle.std.specs.Prelude.{ℕ, ◌≡◌, ◌≤◌, IsSome, All}
use Rattle.dm_base.specs.declared.ids.EventId.{EventId}
use Rattle.dm_feed.specs.declared.grammar.Line.{Line}
use Rattle.dm_feed.specs.declared.grammar.Line.TheVariants.{Say}
use Rattle.dm_network.specs.declared.parts.NetFault.{NetFault}
use Rattle.dm_network.specs.declared.parts.NetFault.TheVariants.{OutOfMemory}
use Rattle.dm_network.specs.Build.{AreWithinLimits, IsMadeOf, RefusesRecords}
use Rattle.dm_network.specs.Net.{Net, event_place}
use Rattle.dm_rows.specs.declared.messages.Message.TheVariants.{DelayEvent}
use Rattle.dm_gen.specs.Trains.{events_of}
use Rattle.dm_gen.specs.Activities.{activities_of}
use Rattle.dm_gen.specs.Feed.{feed_of}

-- the numbers of the records are within the limits
abbrev pub RecordsAreWithinLimits : Type 0
RecordsAreWithinLimits = (trains : ℕ) → trains ≤ 2000 → AreWithinLimits (events_of trains) (activities_of trains)

-- nothing but want of memory refuses the records
abbrev pub RecordsMakeNetwork : Type 0
RecordsMakeNetwork =
    (trains : ℕ) (fault : NetFault) → trains ≤ 2000 → RefusesRecords (events_of trains) (activities_of trains) fault → fault ≡ OutOfMemory

-- the line delays an event of the network by at most 900 seconds
pub record DelaysEventOf (net : Net) (line : Line) : Type 0 where
  pub event : EventId
  pub delay : ℕ
  pub says : line ≡ Say (DelayEvent event delay)
  pub known : IsSome (event_place net event)
  pub most : delay ≤ 900

-- each line of the feed does, of the network that the records make
abbrev pub FeedDelaysEvents : Type 0
FeedDelaysEvents =
    (number trains : ℕ) (net : Net) → 1 ≤ trains → IsMadeOf (events_of trains) (activities_of trains) net →
    All (DelaysEventOf net) (feed_of number trains)
