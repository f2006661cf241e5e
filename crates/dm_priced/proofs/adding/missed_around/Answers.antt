use Rattle.dm_priced.proofs.Pricing.{out_are_activities}
use Rattle.dm_priced.proofs.adding.missed_around.Goals as goal

pub missed_between-along_out-requires-clause-activities : goal.missed_between-along_out-requires-clause-activities
missed_between-along_out-requires-clause-activities c = out_are_activities c.args.net.now c.args.to.now.event c.args.to.now.out_of.now c.requires.is_move.out_of
