use Rattle.dm_commands.proofs.Asked.{start_has_none}
use Rattle.dm_commands.proofs.run.answer_run.Goals as goal

pub answer_at_once-requires-clause-no_cycle : goal.answer_at_once-requires-clause-no_cycle
answer_at_once-requires-clause-no_cycle g c κs within = start_has_none c.args.net.now c.args.rows c.reveal.ensures.network c.requires.start
