use Rattle.dm_records.proofs.LinesRead.{version_is, version_none, version_zero}
use Rattle.dm_records.proofs.lines.version_line.Goals as goal

pub returns-in_default : goal.returns-in_default
returns-in_default c = version_none c.args.line.now c.in_default.ensures.reads

pub returns-then-version-eq0 : goal.returns-then-version-eq0
returns-then-version-eq0 c = version_zero c.args.line.now _ c.if-version-eq0.true c.in-Some.ensures.reads

pub returns : goal.returns
returns c = version_is c.args.line.now _ c.if-version-eq0.false c.in-Some.ensures.reads
