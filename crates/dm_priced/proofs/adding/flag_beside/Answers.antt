use Rattle.std.proofs.Common.{◌∙◌, true, arith, slice_index, length-set}
use Rattle.std.specs.Prelude.{slice_set}
use Rattle.dm_priced.proofs.Beside.{next_tail_flagged}
use Rattle.dm_priced.proofs.adding.flag_beside.Goals as goal

pub loop-a-preserved : goal.loop-a-preserved
loop-a-preserved c =
    let known = c.reveal.ensures.network.formed.ends_are_known in
    let row = c.args.into.now in
    let many = c.requires.as_many in
    let below = known.tails (slice_index row c.loop-a.a-index) (c.requires.activities c.loop-a.a-index (omega arith)) in
    let same = c.loop-a.auto.beside ∙ length-set c.args.beside.now c.args.event true in
    next_tail_flagged c.args.net.now row c.loop-a.a-index (slice_set c.args.beside.now c.args.event true) c.loop-a.beside c.flag_tail.new.beside
    c.loop-a.invariant (omega (arith, below, same, many)) c.flag_tail.ensures
