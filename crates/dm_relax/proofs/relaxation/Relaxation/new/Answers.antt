use Rattle.dm_paths.proofs.Decided.{room_for}
use Rattle.dm_paths.proofs.Fronts.{next_changes, next_pairs}
use Rattle.dm_relax.proofs.relaxation.Relaxation.new.Goals as goal

pub flip_of-requires : goal.flip_of-requires
flip_of-requires c = c.requires.list.free c.loop-decision.decision-index _ c.loop-decision-test.true

pub set-requires : goal.set-requires
set-requires c =
    room_for c.args.net.now c.args.rows.now _ c.flip_of.result c.flip_of.ensures.flip c.loop-decision.undecided.changes.items
    c.loop-decision.undecided.pairs.items c.loop-decision.invariant.changes.size c.loop-decision.invariant.pairs.size

pub loop-decision-preserved : goal.loop-decision-preserved
loop-decision-preserved c = record {
  changes = rw c.set.ensures.changes
      (next_changes c.args.net.now c.args.rows.now c.args.path.now c.requires.list c.reveal.ensures.network c.requires.sized c.loop-decision.decision-index _
      c.loop-decision-test.true c.flip_of.result c.flip_of.ensures.flip c.loop-decision.undecided.changes.items c.loop-decision.invariant.changes);
  pairs = rw c.set.ensures.pairs
      (next_pairs c.args.net.now c.args.rows.now c.args.path.now c.requires.list c.reveal.ensures.network c.requires.sized c.loop-decision.decision-index _
      c.loop-decision-test.true c.flip_of.result c.flip_of.ensures.flip c.loop-decision.undecided.pairs.items c.loop-decision.invariant.pairs);
}
