use Rattle.std.proofs.Common.{inl}
use Rattle.dm_commands.proofs.Asked.{start_has_none}
use Rattle.dm_commands.proofs.queries.ask_text.Goals as goal

pub read_journal-requires-clause-free : goal.read_journal-requires-clause-free
read_journal-requires-clause-free g c = λ lifetimes bounds. start_has_none c.args.net.now c.args.rows c.reveal.ensures.network c.requires.start

pub returns-in-Ok-clause-ends : goal.returns-in-Ok-clause-ends
returns-in-Ok-clause-ends g c =
    let read = c.in-Ok.ensures.reads in
    inl (record { bytes = read.bytes; held = read.held; short = read.short; ends = c.answer_journal.ensures.ends _ _ _ read.bytes read.is_journal })
