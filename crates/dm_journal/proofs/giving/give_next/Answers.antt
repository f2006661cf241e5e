use Rattle.std.proofs.Common.{sym}
use Rattle.dm_journal.proofs.Given.{piece_breaks, piece_taken}
use Rattle.dm_journal.proofs.giving.give_next.Goals as goal

pub returns-in-Ok : goal.returns-in-Ok
returns-in-Ok c = piece_taken c.args.follower.now c.feed.new.self c.args.bytes.now _ c.in-Ok.ensures.takes

pub returns-in-Some : goal.returns-in-Some
returns-in-Some c = piece_breaks c.args.follower.now c.feed.new.self c.args.bytes.now c.in-Err.fault c.in-Some.line c.in-Err.ensures.takes (sym c.in-Some.ensures)
