use Rattle.std.proofs.Common.{ap, length}
use Rattle.dm_task.specs.Tasks.{task_of}
use Rattle.dm_parts.specs.Parts.{shares_of}
use Rattle.dm_part_plans.proofs.Together.{taken_up}
use Rattle.dm_part_plans.proofs.gathering.Gathered.take_up.Goals as goal

pub returns-clause-gathered : goal.returns-clause-gathered
returns-clause-gathered c =
    let t = c.args.task.now in
    let held = c.args.self.now in
    let g = c.requires.gathered in
    let taken = rw c.in-Some.is at (c.in_ok-share.ensures.taken (shares_of held.parts.items) g.taken) in
    let small = rw c.in-Some.is at c.in_ok-share.ensures.small in
    let same = rw c.in-Some-2.is at c.in_ok-part.ensures.share in
    let true_part = rw c.in-Some-2.is at c.in_ok-part.ensures.part in
    let few = rw c.in-Some-2.is at c.in_ok-part.ensures.few in
    let some = rw c.in-Some-2.is at c.in_ok-part.ensures.some in
    let low = rw c.in-Some-2.is at c.in_ok-part.ensures.low in
    taken_up (task_of t) held.claims.arrivals.items held.claims.changes.items c.claim.new.self.arrivals.items c.claim.new.self.changes.items
    held.parts.items c.push.new.self.items c.in-Some-2.part c.in-Some.share held.bound held.nodes held.ids _ c.ids_in.result g taken small same true_part
    few some low c.ids_in.ensures c.if-ids-gt-MOST_IDS.false (ap length c.as_slice.ensures) c.in_ok-push.ensures.items
