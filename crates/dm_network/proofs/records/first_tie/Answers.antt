use Rattle.std.proofs.Common.{arith}
use Rattle.dm_network.proofs.Doubles.{tie_is_least, none_stands_twice}
use Rattle.dm_network.proofs.records.first_tie.Goals as goal

pub returns-then-ids-i : goal.returns-then-ids-i
returns-then-ids-i c =
    tie_is_least c.args.ids.now c.loop-i.i c.requires c.loop-i.invariant (omega arith) (omega arith) c.if-ids-i.true

pub returns : goal.returns
returns c = none_stands_twice c.args.ids.now c.loop-i.i c.loop-i.invariant (omega arith)
