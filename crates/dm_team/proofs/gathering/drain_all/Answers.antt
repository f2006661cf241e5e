use Rattle.dm_team.proofs.Draining.{one_more, first_has_none_out}
use Rattle.dm_team.proofs.gathering.drain_all.Goals as goal

pub drain-requires : goal.drain-requires
drain-requires g c = first_has_none_out _ _ c.in-Some.owner c.in-Some.ensures.steps.0 c.loop-owner.invariant.lent

pub loop-owner-preserved : goal.loop-owner-preserved
loop-owner-preserved g c =
    let inv = c.loop-owner.invariant in
    let more =
    one_more c.args.owners.items c.loop-owner.owner-iterator.rest.items _ c.loop-owner.drained.items _ c.args.given_up.now.items c.loop-owner.given_up.items c.drain.new.given_up.items c.in-Some.owner c.drain.new.owner
    (record { lent = inv.lent; drained = inv.drained; many = inv.many; put = inv.put; taken = inv.taken }) c.in-Some.ensures.steps.0 c.in_ok-push.ensures.items c.in_ok-drain.ensures.drained c.in_ok-drain.ensures.left in
    record { lent = more.lent; drained = more.drained; many = more.many; put = more.put; taken = more.taken }
