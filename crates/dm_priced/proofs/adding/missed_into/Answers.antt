use Rattle.std.proofs.Common.{sym}
use Rattle.dm_settle.specs.Moving.{times_after}
use Rattle.dm_priced.proofs.Changing.{unpassed_into}
use Rattle.dm_priced.proofs.Pricing.{into_are_activities}
use Rattle.dm_priced.proofs.adding.missed_into.Goals as goal

pub missed_between-requires-clause-activities : goal.missed_between-requires-clause-activities
missed_between-requires-clause-activities c = into_are_activities c.args.net.now c.args.to.now.event c.args.to.now.into.now c.requires.is_move.into

pub returns-else-is_flagged-clause-was : goal.returns-else-is_flagged-clause-was
returns-else-is_flagged-clause-was c =
    unpassed_into c.args.net.now c.args.flags.passed.now c.args.flags.cancelled.now c.args.to.now.constraints.now.spans c.args.to.now.times.now c.args.to.now.event c.args.to.now.into.now c.requires.is_move.into (sym c.if-is_flagged.ensures)

pub returns-else-is_flagged-clause-now : goal.returns-else-is_flagged-clause-now
returns-else-is_flagged-clause-now c =
    unpassed_into c.args.net.now c.args.flags.passed.now c.args.flags.cancelled.now c.args.to.now.constraints.now.spans (times_after c.args.to.now) c.args.to.now.event c.args.to.now.into.now c.requires.is_move.into (sym c.if-is_flagged.ensures)
