use Rattle.std.proofs.Common.{sym, subst}
use Rattle.dm_follow.specs.declared.stages.Stage.{Stage}
use Rattle.dm_follow.specs.Inside.Reading.{StepsHeader}
use Rattle.dm_follow.proofs.headers.header_behind.Goals as goal

pub returns-in-Version : goal.returns-in-Version
returns-in-Version c = subst (λ (s : Stage). StepsHeader c.args.penalty s c.args.line.now c.version_behind.result) (sym c.in-Version.is) (c.version_behind.ensures c.args.penalty)

pub returns-in-Feeds : goal.returns-in-Feeds
returns-in-Feeds c = subst (λ (s : Stage). StepsHeader c.args.penalty s c.args.line.now c.feeds_behind.result) (sym c.in-Feeds.is) (c.feeds_behind.ensures c.args.penalty)

pub returns-in-Entries : goal.returns-in-Entries
returns-in-Entries c = subst (λ (s : Stage). StepsHeader c.args.penalty s c.args.line.now c.entries_behind.result) (sym c.in-Entries.is) (c.entries_behind.ensures c.args.penalty)
