use Rattle.std.proofs.Common.{refl, ◌∙◌}
use Rattle.dm_propagate.proofs.HeldLemmas.{next_let_go}
use Rattle.dm_propagate.proofs.held.let_go.Goals as goal

pub loop-a-preserved : goal.loop-a-preserved
loop-a-preserved c = (
  c.let_go_one.ensures.priced,
  c.let_go_one.ensures.flags ∙ c.loop-a.invariant.1,
  next_let_go c.args.day.now.net.now c.args.day.now.rows.now c.args.acts.now c.loop-a.a-index _ c.args.priced.now.live c.loop-a.priced.live c.let_go_one.new.priced.live refl
      c.loop-a.invariant.2 c.let_go_one.ensures.gone,
)
