use Rattle.std.proofs.Common.{arith, ◌≡◌, length}
use Rattle.dm_tree.proofs.Ends.{children, branch_ends, leaf_ends, is_leaf}
use Rattle.dm_tree.proofs.whole.end_at.Goals as goal

pub bounds-ends-place : goal.bounds-ends-place
bounds-ends-place c =
    let h = children _ _ _ _ _ c.requires.whole c.requires.within c.in-Inner.is c.requires.later in
    let size : length c.args.ends.now ≡ length c.args.nodes.now = c.requires.later.0 in
    omega (arith, h.first)

pub bounds-ends-ends : goal.bounds-ends-ends
bounds-ends-ends c =
    let h = children _ _ _ _ _ c.requires.whole c.requires.within c.in-Inner.is c.requires.later in
    let size : length c.args.ends.now ≡ length c.args.nodes.now = c.requires.later.0 in
    omega (arith, h.second)

pub returns-in-Inner : goal.returns-in-Inner
returns-in-Inner c =
    branch_ends _ _ _ _ _ c.requires.within c.in-Inner.is
    (children _ _ _ _ _ c.requires.whole c.requires.within c.in-Inner.is c.requires.later)

pub returns-in-Cycle : goal.returns-in-Cycle
returns-in-Cycle c = leaf_ends _ _ _ c.requires.whole c.requires.within (is_leaf _ c.in-Cycle.is)
