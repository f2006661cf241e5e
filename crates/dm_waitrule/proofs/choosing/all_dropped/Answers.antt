use Rattle.std.proofs.Common.{sym, subst}
use Rattle.dm_rows.specs.Active.{HasNoCycle}
use Rattle.dm_waitrule.proofs.Ruled.{open_dropped}
use Rattle.dm_waitrule.proofs.choosing.all_dropped.Goals as goal

pub engine_of-requires-clause-no_cycle : goal.engine_of-requires-clause-no_cycle
engine_of-requires-clause-no_cycle c =
    subst (HasNoCycle c.args.net.now) (sym c.drop_each.ensures.rows)
    (open_dropped c.args.net.now _ c.args.order.now (subst (HasNoCycle c.args.net.now) (sym c.in_ok-dropped.ensures.same) c.requires.no_cycle))
