use Rattle.std.proofs.Common.{get_or, arith, ◌∙◌}
use Rattle.std.proofs.lemmas.Option.{slice_get-get_or}
use Rattle.dm_rows.specs.declared.messages.Flip.TheVariants.{Keep}
use Rattle.dm_propagate.proofs.Flagging.{next_flip_charged}
use Rattle.dm_propagate.proofs.charging.charge_by_flips.Goals as goal

pub loop-flip-preserved : goal.loop-flip-preserved
loop-flip-preserved c = (
  c.charge_by_flip.ensures.priced,
  c.charge_by_flip.ensures.live ∙ c.loop-flip.invariant.1,
  c.charge_by_flip.ensures.passed ∙ c.loop-flip.invariant.2,
  c.charge_by_flip.ensures.cancelled ∙ c.loop-flip.invariant.3,
  next_flip_charged c.args.day.now.net.now c.args.day.now.rows.now c.args.flips.now c.loop-flip.flip-index (get_or c.args.flips.now c.loop-flip.flip-index (Keep 0))
      (slice_get-get_or c.args.flips.now c.loop-flip.flip-index (Keep 0) (omega arith)) c.args.priced.now.charged c.loop-flip.priced.charged
      c.charge_by_flip.new.priced.charged c.loop-flip.invariant.4 c.charge_by_flip.ensures.charged,
)
