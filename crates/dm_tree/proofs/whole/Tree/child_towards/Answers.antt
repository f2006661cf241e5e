use Rattle.std.proofs.Common.{◌<◌, length, arith}
use Rattle.dm_tree.proofs.Ends.{not_before, not_outside, not_behind_kept, not_below_leaf, towards, is_leaf}
use Rattle.dm_tree.proofs.whole.Tree.child_towards.Goals as goal
use Rattle.dm_tree.proofs.whole.Tree.child_towards.Goals.{then-target-place-via-then-target-place, then-target-place-via-else-target-place+then-place-len, then-target-place-via-else-target-place+else-place-len+then-index-target}

pub returns-then-target-place : goal.returns-then-target-place
returns-then-target-place c =
    elim c.then-target-place.branch [
      | then-target-place-via-then-target-place w ↦
          not_before _ _ _ w.if-target-place.true
      | then-target-place-via-else-target-place+then-place-len w ↦
          rw (← c.self.view_is) (not_outside _ _ _ (omega (arith, w.len.ensures, w.if-place-len.true)))
      | then-target-place-via-else-target-place+else-place-len+then-index-target w ↦
          let lt : c.args.place < length c.self.inside.nodes.items = omega (arith, w.len.ensures, w.if-place-len.false) in
          rw (← c.self.view_is) (not_behind_kept _ _ _ _ _ c.self.invariant.1 lt w.index.ensures w.if-index-target.true)
    ]

pub returns-in-Inner : goal.returns-in-Inner
returns-in-Inner c =
    let lt : c.args.place < length c.self.inside.nodes.items = omega (arith, c.len.ensures, c.if-place-len.false) in
    rw (← c.self.view_is)
    (towards _ _ _ _ _ _ _ _ c.self.invariant.0 lt c.index-2.ensures c.in-Inner.is c.index-in-Inner.ensures c.self.invariant.1
    c.if-target-place.false _ c.index.ensures c.if-index-target.false c.child_of.ensures)

pub returns-in-Cycle : goal.returns-in-Cycle
returns-in-Cycle c =
    let lt : c.args.place < length c.self.inside.nodes.items = omega (arith, c.len.ensures, c.if-place-len.false) in
    rw (← c.self.view_is)
    (not_below_leaf c.self.inside.nodes.items _ _ _ c.self.invariant.0 lt c.index-2.ensures (is_leaf _ c.in-Cycle.is))
