use Rattle.std.proofs.Common.{arith}
use Rattle.dm_check.proofs.Flags.{some_unnamed, boards_good}
use Rattle.dm_check.proofs.named.boards_told.Goals as goal

pub returns-then-not-are_all : goal.returns-then-not-are_all
returns-then-not-are_all c = λ history logs each flagged.
    some_unnamed history logs c.args.named.now each flagged c.args.lines.now c.number_told.new.lines c.line-line.result c.in-Ok.number c.line-line.ensures c.in-Ok.ensures (omega (arith, c.if-number.false)) c.if-not-are_all.ensures

pub returns : goal.returns
returns c = λ history logs each flagged.
    boards_good history logs c.args.named.now each flagged c.args.lines.now c.number_told.new.lines c.line-line.result c.in-Ok.number c.line-line.ensures c.in-Ok.ensures (omega (arith, c.if-number.false)) c.if-not-are_all.ensures
