use Rattle.std.proofs.Common.{sym, ◌∙◌}
use Rattle.dm_priced.proofs.Pricing.{lateness_still}
use Rattle.dm_priced.proofs.adding.lateness_anew.Goals as goal

pub returns-then-is_flagged : goal.returns-then-is_flagged
returns-then-is_flagged c =
    lateness_still c.args.net.now c.args.flags.cancelled.now c.args.to.times.now c.args.to.event c.args.to.time c.args.lateness
    c.requires.known c.requires.is_move.is_event c.requires.is_move.as_many (sym c.is_flagged.ensures ∙ c.if-is_flagged.true)
