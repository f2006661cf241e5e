use Rattle.std.proofs.Common.{sym}
use Rattle.dm_feed.proofs.Printed.{plain_reads, unplain_fails}
use Rattle.dm_feed.proofs.messages.read_printed.Goals as goal

pub returns-then-not-is_plain : goal.returns-then-not-is_plain
returns-then-not-is_plain c = unplain_fails c.args.bytes.now (sym c.if-not-is_plain.ensures)

pub returns : goal.returns
returns c = plain_reads c.args.bytes.now c.printed_line.result (sym c.if-not-is_plain.ensures) c.printed_line.ensures
