use Rattle.std.proofs.Common.{◌∙◌, sym, ap, ◌*◌, ◌^◌, false, length, replicate, slice_index}
use Rattle.dm_base.specs.declared.limits.TheConstants.{WEIGHT}
use Rattle.dm_priced.specs.Priced.{is_flagged, late_weight}
use Rattle.dm_priced.specs.Inside.Adding.{cost_at}
use Rattle.dm_priced.proofs.Changing.{late_is_cost, none_flagged}
use Rattle.dm_priced.proofs.Sums.{below_next}
use Rattle.dm_priced.proofs.totals.lateness_of.Goals as goal

pub loop-i-preserved : goal.loop-i-preserved
loop-i-preserved c =
    let n = length c.args.net.now.events in
    below_next (late_weight c.args.net.now (replicate n false) c.args.times.now) c.loop-i.i (WEIGHT * 2 ^ 38) c.loop-i.total c.cost_at-total.result c.cost_at-total.ensures.limit
    (c.cost_at-total.ensures.cost ∙ ap (cost_at c.args.net.now c.loop-i.i) c.time-time.ensures.value
    ∙ sym (late_is_cost c.args.net.now (is_flagged (replicate n false) c.loop-i.i) c.loop-i.i (slice_index c.args.times.now c.loop-i.i) (none_flagged n c.loop-i.i)))
    c.loop-i.invariant
