use Rattle.std.proofs.Common.{false, refl, ◌∙◌}
use Rattle.dm_evaluate.proofs.Headings.{next_turned}
use Rattle.dm_evaluate.proofs.headways.release_each.Goals as goal

pub loop-a-preserved : goal.loop-a-preserved
loop-a-preserved c = (
  c.release_one.ensures.priced,
  next_turned c.args.net.now c.args.pair c.args.row.now c.loop-a.a-index _ false c.args.priced.now c.loop-a.priced c.release_one.new.priced refl
      c.loop-a.invariant.1 c.release_one.ensures.turns,
  c.release_one.ensures.cycle_stays ∙ c.loop-a.invariant.2,
)
