use Rattle.std.proofs.Common.{◌∙◌, ap, arith}
use Rattle.dm_priced.specs.Inside.Adding.{cost_at}
use Rattle.dm_priced.proofs.Limits.{lateness_within}
use Rattle.dm_priced.proofs.Pricing.{lateness_holds, lateness_now}
use Rattle.dm_priced.proofs.adding.lateness_then.Goals as goal

pub overflow_add-result : goal.overflow_add-result
overflow_add-result c =
    let bound = lateness_within c.args.net.now c.reveal.ensures.within c.args.flags.cancelled.now c.args.to.now.times.now c.is_early.ensures in
    let is = c.requires.known in
    let limit = c.cost_at-cost.ensures.limit in
    omega (arith, bound, is, limit)

pub overflow_sub-result : goal.overflow_sub-result
overflow_sub-result c =
    lateness_holds c.args.net.now c.args.flags.cancelled.now c.args.to.now.times.now c.args.to.now.event c.args.to.now.time
    c.args.lateness c.requires.known c.requires.is_move.is_event c.requires.is_move.as_many c.requires.runs
    c.cost_at-cost.result c.cost_at-was.result c.cost_at-cost.ensures.cost
    (c.cost_at-was.ensures.cost ∙ ap (cost_at c.args.net.now c.args.to.now.event) c.time-earlier.ensures.value)

pub returns : goal.returns
returns c =
    lateness_now c.args.net.now c.args.flags.cancelled.now c.args.to.now.times.now c.args.to.now.event c.args.to.now.time
    c.args.lateness c.requires.known c.requires.is_move.is_event c.requires.is_move.as_many c.requires.runs
    c.cost_at-cost.result c.cost_at-was.result c.cost_at-cost.ensures.cost
    (c.cost_at-was.ensures.cost ∙ ap (cost_at c.args.net.now c.args.to.now.event) c.time-earlier.ensures.value)
