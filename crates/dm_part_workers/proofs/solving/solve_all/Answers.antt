use Rattle.std.proofs.Common.{◌≤◌, length, arith, rules}
use Rattle.dm_part_workers.proofs.Back.{none_out, few_put}
use Rattle.dm_part_workers.proofs.solving.solve_all.Goals as goal

pub take_rest-requires-clause-none_out : goal.take_rest-requires-clause-none_out
take_rest-requires-clause-none_out g c =
    none_out c.args.jobs.items _ c.in_ok-hands.hands.items _ _ _ _ _ _ c.in_ok-owner.ensures c.in_ok-put_all.ensures c.in_ok-tallies.ensures.owner c.in_ok-settle_all.ensures
    (search rules)

pub take_rest-requires-clause-few : goal.take_rest-requires-clause-few
take_rest-requires-clause-few g c =
    let few : length c.settle_all.new.owner.account.put ≤ length c.args.jobs.items =
    few_put c.args.jobs.items _ c.in_ok-hands.hands.items _ _ _ _ _ _ c.in_ok-owner.ensures c.in_ok-put_all.ensures c.in_ok-tallies.ensures.owner c.in_ok-settle_all.ensures in
    omega (arith, few, c.len-many.ensures, c.args.jobs.ok.0)
