use Rattle.std.proofs.Common.{[], sym, ◌∙◌}
use Rattle.dm_rows.specs.Decide.{is_free_change}
use Rattle.dm_rows.specs.Relax.{is_undecided_change}
use Rattle.dm_paths.proofs.Flagged.{and_true, one_flag_more}
use Rattle.dm_paths.proofs.free.free_changes.Goals as goal

pub loop-a-preserved : goal.loop-a-preserved
loop-a-preserved c =
    one_flag_more (is_undecided_change c.args.net.now c.args.rows.now []) c.loop-a.a c.loop-a.flags.items c.push.new.self.items c.is_free_change.result
    c.loop-a.invariant (c.is_free_change.ensures ∙ sym (and_true (is_free_change c.args.net.now c.args.rows.now c.loop-a.a))) c.in_ok-push.ensures.items
