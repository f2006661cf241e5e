use Rattle.std.proofs.Common.{arith}
use Rattle.dm_tree.proofs.Grouping.{all_up}
use Rattle.dm_tree.proofs.drafts.every_place.Goals as goal

pub returns : goal.returns
returns c = all_up c.args.leaves.now c.loop-i.places.items c.loop-i.i (omega (arith, c.loop-i.auto.i-end, c.loop-i-test.false)) c.loop-i.invariant
