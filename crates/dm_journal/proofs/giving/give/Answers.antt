use Rattle.std.proofs.Common.{Option, Some, sym, subst}
use Rattle.dm_journal.specs.declared.giving.BrokenLine.{BrokenLine}
use Rattle.dm_journal.specs.Inside.Giving.{GivesMore}
use Rattle.dm_journal.proofs.Given.{broken_more}
use Rattle.dm_journal.proofs.giving.give.Goals as goal

pub returns-in-Some : goal.returns-in-Some
returns-in-Some c =
    subst (λ (b : Option BrokenLine). GivesMore c.args.follower.now b c.args.follower.now (Some c.in-Some.line) c.args.bytes.now) (sym c.in-Some.is)
    (broken_more c.args.follower.now c.args.follower.now c.in-Some.line c.args.bytes.now)
