use Rattle.std.proofs.Common.{true, refl, sym, subst}
use Rattle.dm_live.specs.Live.{NoneFixed}
use Rattle.dm_evaluate.proofs.Headings.{next_turned}
use Rattle.dm_evaluate.proofs.headways.hold_each.Goals as goal

pub hold_one-requires-clause-open : goal.hold_one-requires-clause-open
hold_one-requires-clause-open c = subst NoneFixed (sym c.loop-a.invariant.1.keeps.fixed) c.requires.open

pub loop-a-preserved : goal.loop-a-preserved
loop-a-preserved c = (
  c.hold_one.ensures.priced,
  next_turned c.args.net.now c.args.pair c.args.row.now c.loop-a.a-index _ true c.args.priced.now c.loop-a.priced c.hold_one.new.priced refl
      c.loop-a.invariant.1 c.in-Ok.ensures.turns,
)
