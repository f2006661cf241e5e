use Rattle.std.proofs.Common.{arith}
use Rattle.dm_priced.proofs.Limits.{missed_within}
use Rattle.dm_priced.proofs.Pricing.{missed_holds, missed_now}
use Rattle.dm_priced.proofs.adding.missed_anew.Goals as goal

pub overflow_add-result : goal.overflow_add-result
overflow_add-result c =
    let bound = missed_within c.args.net.now c.reveal.ensures.within c.args.flags.passed.now c.args.flags.cancelled.now c.args.to.constraints.now.spans c.args.to.times.now in
    let is = c.requires.known in
    let limit = c.missed_around-around.ensures.now_limit in
    omega (arith, bound, is, limit)

pub overflow_sub-result : goal.overflow_sub-result
overflow_sub-result c =
    missed_holds c.args.net.now c.args.flags.passed.now c.args.flags.cancelled.now c.args.to.constraints.now.spans c.args.to.times.now c.args.to.event c.args.to.time c.args.missed
    c.requires.known c.requires.is_move.is_event c.requires.is_move.as_many
    c.args.to.into.now c.args.to.out_of.now c.requires.is_move.into c.requires.is_move.out_of
    c.missed_around-around.result.now c.missed_around-around.result.was c.missed_around-around.ensures.now c.missed_around-around.ensures.was

pub returns : goal.returns
returns c =
    missed_now c.args.net.now c.args.flags.passed.now c.args.flags.cancelled.now c.args.to.constraints.now.spans c.args.to.times.now c.args.to.event c.args.to.time c.args.missed
    c.requires.known c.requires.is_move.is_event c.requires.is_move.as_many
    c.args.to.into.now c.args.to.out_of.now c.requires.is_move.into c.requires.is_move.out_of
    c.missed_around-around.result.now c.missed_around-around.result.was c.missed_around-around.ensures.now c.missed_around-around.ensures.was
