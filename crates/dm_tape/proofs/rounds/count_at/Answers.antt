use Rattle.std.proofs.Common.{inr}
use Rattle.dm_cert.proofs.Lined.{told_none}
use Rattle.dm_tape.specs.Told.{IsFeedLine}
use Rattle.dm_tape.proofs.Steps.{feed_is_none, feed_is_other}
use Rattle.dm_tape.proofs.rounds.count_at.Goals as goal

pub returns-in_default-opening_line : goal.returns-in_default-opening_line
returns-in_default-opening_line c =
    inr (told_none (IsFeedLine c.args.number) _ _ _ _ c.line-line.ensures c.in-Some.ensures (feed_is_none c.args.number _ c.in_default-opening_line.ensures))

pub returns-then-opening-number : goal.returns-then-opening-number
returns-then-opening-number c =
    inr (told_none (IsFeedLine c.args.number) _ _ _ _ c.line-line.ensures c.in-Some.ensures
    (feed_is_other c.args.number c.in-Some-opening_line.opening.feed c.in-Some-opening_line.opening.items _ c.in-Some-opening_line.ensures c.if-opening-number.true))
