use Rattle.std.proofs.Common.{◌<◌, ◌+◌, length, arith}
use Rattle.dm_tree.proofs.Ends.{first_has_end, second_stands, no_choice, is_leaf}
use Rattle.dm_tree.proofs.whole.Tree.second_child.Goals as goal

pub index-requires-in-Inner : goal.index-requires-in-Inner
index-requires-in-Inner c =
    let lt : c.args.place < length c.self.inside.nodes.items = omega (arith, c.len.ensures, c.if-place-len.false) in
    let has : c.args.place + 1 < length c.self.inside.ends.items =
    first_has_end _ _ _ _ _ c.self.invariant.0 lt c.index.ensures c.in-Inner.is c.self.invariant.1 in
    omega arith

pub returns-in-Inner : goal.returns-in-Inner
returns-in-Inner c =
    let lt : c.args.place < length c.self.inside.nodes.items = omega (arith, c.len.ensures, c.if-place-len.false) in
    rw (← c.self.view_is)
    (second_stands _ _ _ _ _ _ c.self.invariant.0 lt c.index.ensures c.in-Inner.is c.index-in-Inner.ensures c.self.invariant.1)

pub returns-in-Cycle : goal.returns-in-Cycle
returns-in-Cycle c = rw (← c.self.view_is) (no_choice c.self.inside.nodes.items c.args.place _ c.index.ensures (is_leaf _ c.in-Cycle.is))
