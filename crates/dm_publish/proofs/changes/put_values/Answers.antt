use Rattle.std.proofs.Common.{arith}
use Rattle.dm_publish.proofs.Listed.{all_written}
use Rattle.dm_publish.proofs.changes.put_values.Goals as goal

pub returns-clause-values : goal.returns-clause-values
returns-clause-values g c = all_written c.loop-event.last.items c.args.values.now c.args.listed.now c.loop-event.event-index (omega arith) c.loop-event.invariant.0
