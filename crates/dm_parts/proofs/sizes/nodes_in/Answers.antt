use Rattle.std.proofs.Common.{arith, ap, length, ◌∙◌}
use Rattle.std.proofs.lemmas.List.{take_all}
use Rattle.dm_parts.specs.Sizes.{nodes_of}
use Rattle.dm_parts.proofs.Counting.{counts_more}
use Rattle.dm_parts.proofs.sizes.nodes_in.Goals as goal

pub loop-part-init : goal.loop-part-init
loop-part-init c = record { is = omega arith; small = omega arith }

pub overflow_add-nodes : goal.overflow_add-nodes
overflow_add-nodes c = let small = c.loop-part.invariant.small in omega (arith, small)

pub loop-part-preserved : goal.loop-part-preserved
loop-part-preserved c =
    counts_more c.args.parts.now c.loop-part.part-index _ _ _ _ c.loop-part-test.true c.part-item.is (ap length c.as_slice.ensures) (omega arith) c.loop-part.invariant

pub returns : goal.returns
returns c = c.loop-part.invariant.is ∙ ap nodes_of (take_all c.loop-part.part-index c.args.parts.now c.loop-part-test.false)
