use Rattle.std.proofs.Common.{[]}
use Rattle.dm_rows.specs.Relax.{is_relaxed_lost}
use Rattle.dm_paths.proofs.Flagged.{one_flag_more}
use Rattle.dm_check_plans.proofs.relaxed_problem.lost_flags.Goals as goal

pub loop-a-preserved : goal.loop-a-preserved
loop-a-preserved c =
    one_flag_more (is_relaxed_lost c.args.net.now c.args.rows.now []) c.loop-a.a c.loop-a.flags.items c.push.new.self.items c.is_lost_for_good.result
    c.loop-a.invariant c.is_lost_for_good.ensures c.in_ok-push.ensures.items
