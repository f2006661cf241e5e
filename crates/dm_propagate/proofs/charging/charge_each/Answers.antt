use Rattle.std.proofs.Common.{refl, ◌∙◌, slice_index}
use Rattle.dm_propagate.proofs.Flagging.{next_charged}
use Rattle.dm_propagate.proofs.charging.charge_each.Goals as goal

pub loop-a-preserved : goal.loop-a-preserved
loop-a-preserved c =
    let acts = c.args.acts.now in
    let had = c.loop-a.invariant in (
      c.charge_one.ensures.priced,
      c.charge_one.ensures.live ∙ had.1,
      c.charge_one.ensures.passed ∙ had.2,
      c.charge_one.ensures.cancelled ∙ had.3,
      next_charged c.args.day.now.net.now c.args.day.now.rows.now acts c.loop-a.a-index (slice_index acts c.loop-a.a-index) c.args.priced.now.charged c.loop-a.priced.charged
          c.charge_one.new.priced.charged refl had.4 c.charge_one.ensures.charged,
    )
