use Rattle.std.proofs.Common.{sym}
use Rattle.dm_records.proofs.ItemsRead.{says_line, says_unknown}
use Rattle.dm_records.proofs.items.line_said.Goals as goal

pub returns-then-has_words : goal.returns-then-has_words
returns-then-has_words c = says_line c.args.version c.in-Some.said c.args.bytes.now c.requires c.in-Some.ensures (sym c.if-has_words.ensures)

pub returns-else-has_words : goal.returns-else-has_words
returns-else-has_words c = says_unknown c.args.version c.in-Some.said c.args.bytes.now c.in-Some.ensures (sym c.if-has_words.ensures)
