use Rattle.dm_gen.proofs.Refusing.{delays_events}
use Rattle.dm_gen.proofs.laws.feed_delays_events.Goals as goal

pub returns : goal.returns
returns c = delays_events
