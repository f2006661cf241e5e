use Rattle.std.proofs.Common.{[]}
use Rattle.dm_rows.specs.Relax.{is_relaxed_active}
use Rattle.dm_times.proofs.Filled.{no_cycle_of_held, refused_for_held}
use Rattle.dm_evaluate.proofs.starting.root_cycle.Goals as goal

pub unreachable-requires : goal.unreachable-requires
unreachable-requires c =
    no_cycle_of_held c.args.net.now c.args.rows.now (is_relaxed_active c.args.net.now c.args.rows.now []) c.in-Ok.constraints c.in-Ok.ensures
    c.in-Ok-least_times.ensures.no_cycle c.requires.cyclic.cycle c.requires.cyclic.is_cycle

pub returns : goal.returns
returns c =
    refused_for_held c.args.net.now c.args.rows.now (is_relaxed_active c.args.net.now c.args.rows.now []) c.in-Ok.constraints c.in-Ok.ensures
    c.in-Err.no_times c.in-Err.ensures.refused
