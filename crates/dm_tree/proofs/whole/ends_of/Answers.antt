use Rattle.std.proofs.Common.{◌≡◌, ◌≤◌, ◌-◌, length, arith}
use Rattle.dm_tree.proofs.Ends.{ends_from_last, no_ends}
use Rattle.dm_tree.proofs.whole.ends_of.Goals as goal

pub loop-place-init : goal.loop-place-init
loop-place-init c =
    let size : length c.in_ok-ends.ends.items ≡ length c.args.nodes.now = omega (arith, c.in_ok-ends.ensures.len) in
    (omega arith, no_ends _ _ size)

pub loop-place-preserved : goal.loop-place-preserved
loop-place-preserved c =
    let within : c.loop-place.place ≤ length c.args.nodes.now = c.loop-place.invariant.0 in
    let less : c.loop-place.place - 1 ≤ length c.args.nodes.now = omega arith in
    (less, ends_from_last _ _ _ _ c.loop-place-test.true within c.end_at.ensures c.loop-place.invariant.1)
