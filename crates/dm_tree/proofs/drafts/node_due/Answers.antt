use Rattle.std.proofs.Common.{refl, subst, slice_index}
use Rattle.dm_tree.specs.Inside.Assembling.{SeenSoFar}
use Rattle.dm_tree.proofs.Asking.{clash, asks_for_none, agree_when, agree_never}
use Rattle.dm_tree.proofs.Grouping.{seen_here, seen_with, group_end, read_in}
use Rattle.dm_tree.proofs.drafts.node_due.Goals as goal
use Rattle.dm_tree.proofs.drafts.node_due.Goals.{in-Some+else-not-agree, in_default}

pub asked_of-requires : goal.asked_of-requires
asked_of-requires c =
    (read_in c.args.leaves.now c.args.path.now c.args.group.now c.loop-i.i _ c.index-leaves-place.result c.requires
    c.loop-i-test.true refl c.index-leaves-place.is).1

pub returns-in_err-asked : goal.returns-in_err-asked
returns-in_err-asked c =
    rw c.from_residual.ensures
    (asks_for_none c.args.leaves.now c.args.path.now (slice_index c.args.group.now c.loop-i.i) c.index-leaves-place.result
    (read_in c.args.leaves.now c.args.path.now c.args.group.now c.loop-i.i _ c.index-leaves-place.result c.requires
    c.loop-i-test.true refl c.index-leaves-place.is).0 c.in_err-asked.ensures)

pub returns-then-not-agree : goal.returns-then-not-agree
returns-then-not-agree c =
    clash c.args.leaves.now c.args.path.now (slice_index c.args.group.now c.loop-i.i) c.index-leaves-place.result c.in-Some.other
    c.in_ok-asked.asked
    (subst (SeenSoFar c.args.leaves.now c.args.path.now (slice_index c.args.group.now c.loop-i.i)) c.in-Some.is
    (seen_here c.args.leaves.now c.args.path.now c.args.group.now c.loop-i.i c.loop-i.found c.requires c.loop-i-test.true
    c.loop-i.invariant))
    (read_in c.args.leaves.now c.args.path.now c.args.group.now c.loop-i.i _ c.index-leaves-place.result c.requires
    c.loop-i-test.true refl c.index-leaves-place.is).0
    c.in_ok-asked.ensures.0 c.if-not-agree.ensures

pub loop-i-preserved : goal.loop-i-preserved
loop-i-preserved c =
    let read =
    read_in c.args.leaves.now c.args.path.now c.args.group.now c.loop-i.i _ c.index-leaves-place.result c.requires
    c.loop-i-test.true refl c.index-leaves-place.is in
    elim c.match-found.branch [
      | in-Some+else-not-agree w ↦
          seen_with c.args.leaves.now c.args.path.now c.args.group.now c.loop-i.i c.index-leaves-place.result c.loop-i.found
          c.in_ok-asked.asked c.requires c.loop-i-test.true c.loop-i.invariant read.0 c.in_ok-asked.ensures
          (agree_when c.loop-i.found w.in-Some.other c.in_ok-asked.asked w.in-Some.is w.if-not-agree.ensures)
      | in_default w ↦
          seen_with c.args.leaves.now c.args.path.now c.args.group.now c.loop-i.i c.index-leaves-place.result c.loop-i.found
          c.in_ok-asked.asked c.requires c.loop-i-test.true c.loop-i.invariant read.0 c.in_ok-asked.ensures
          (agree_never c.loop-i.found c.in_ok-asked.asked w.in_default.is)
    ]

pub returns : goal.returns
returns c =
    rw c.unwrap_or.ensures
    (group_end c.args.leaves.now c.args.path.now c.args.group.now c.loop-i.i c.loop-i.found c.requires c.loop-i.auto.i-end
    c.loop-i-test.false c.loop-i.invariant)
