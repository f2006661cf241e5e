use Rattle.std.proofs.Common.{arith}
use Rattle.dm_publish.proofs.Notes.{no_notes}
use Rattle.dm_publish.proofs.showing.Showing.new.Goals as goal

pub invariant_of-result : goal.invariant_of-result
invariant_of-result c =
    let notes = c.in_ok-with_capacity.ensures.capacity in
    let flags = c.in_ok-with_capacity-2.ensures.capacity in
    let times = c.in_ok-with_capacity-3.ensures.capacity in
    let last = c.in_ok-with_capacity-4.ensures.capacity in
    let marks = c.in_ok-with_capacity-5.ensures.capacity in
    (c.requires, omega arith, omega arith, omega arith, omega arith, omega arith, no_notes c.args.boards _ c.in_ok-with_capacity.ensures.items)
