use Rattle.dm_journal.proofs.Followed.{reads_name}
use Rattle.dm_journal.proofs.reading.read_journal.Goals as goal

pub returns-clause-reads : goal.returns-clause-reads
returns-clause-reads g c =
    reads_name g.H.Src.Source.left g.H.Src.Source.is_sound (g.H.Shelf.files c.args.shelf.now) (g.H.Shelf.is_sound c.args.shelf.now) c.args.name.now _ _ c.args.net.now c.args.rows c.args.penalty _ c.journal_of.result
    c.in-Ok-open.ensures.bytes c.in-Ok-open.ensures.sound
    (record { network = c.in-Ok.ensures.network; start = c.in-Ok.ensures.start; penalty_is = c.in-Ok.ensures.penalty; follows = c.in-Ok.ensures.follows })
    c.journal_of.ensures
