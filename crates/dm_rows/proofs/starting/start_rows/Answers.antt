use Rattle.dm_rows.proofs.StartSizes.{start_is_sized}
use Rattle.dm_rows.proofs.starting.start_rows.Goals as goal

pub returns-in-Ok-clause-sized : goal.returns-in-Ok-clause-sized
returns-in-Ok-clause-sized c =
    start_is_sized c.args.net.now _ _ c.args.events.now c.args.activities.now _ _ c.in-Ok.rows
    c.in_ok-event_delays.ensures.delays c.in_ok-act_delays.ensures.delays c.in-Ok.ensures
