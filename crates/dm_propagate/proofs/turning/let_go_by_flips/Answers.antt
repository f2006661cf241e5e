use Rattle.std.proofs.Common.{get_or, arith, ◌∙◌}
use Rattle.std.proofs.lemmas.Option.{slice_get-get_or}
use Rattle.dm_rows.specs.declared.messages.Flip.TheVariants.{Keep}
use Rattle.dm_propagate.proofs.Around.{let_go_next}
use Rattle.dm_propagate.proofs.turning.let_go_by_flips.Goals as goal

pub loop-flip-preserved : goal.loop-flip-preserved
loop-flip-preserved g c = (
  c.let_go_by_flip.ensures.priced,
  c.let_go_by_flip.ensures.flags ∙ c.loop-flip.invariant.1,
  let_go_next c.args.day.now.net.now c.args.day.now.rows.now c.args.flips.now c.loop-flip.flip-index (get_or c.args.flips.now c.loop-flip.flip-index (Keep 0))
      (slice_get-get_or c.args.flips.now c.loop-flip.flip-index (Keep 0) (omega arith)) c.args.priced.now.live c.loop-flip.priced.live c.let_go_by_flip.new.priced.live
      c.loop-flip.invariant.2 c.let_go_by_flip.ensures.gone,
)
