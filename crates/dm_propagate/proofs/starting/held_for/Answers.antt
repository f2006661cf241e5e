use Rattle.dm_propagate.proofs.Beginning.{follows_constraints, refused_by_rows}
use Rattle.dm_propagate.proofs.starting.held_for.Goals as goal

pub returns-in-Ok-new-clause-follows : goal.returns-in-Ok-new-clause-follows
returns-in-Ok-new-clause-follows c =
    follows_constraints c.args.net.now c.args.rows.now c.in_ok-constraints.constraints c.in-Ok-new.live.given c.in_ok-constraints.ensures c.in-Ok-new.ensures.given

pub returns-in-Err-new-clause-refused : goal.returns-in-Err-new-clause-refused
returns-in-Err-new-clause-refused c =
    refused_by_rows c.args.net.now c.args.rows.now c.in_ok-constraints.constraints c.in-Err-new.fault c.in_ok-constraints.ensures c.in-Err-new.ensures.refused
