use Rattle.dm_rows.proofs.Harmless.{never_make_cycles}
use Rattle.dm_times.proofs.laws.harmless_messages_make_no_cycle.Goals as goal

pub returns : goal.returns
returns c = never_make_cycles
