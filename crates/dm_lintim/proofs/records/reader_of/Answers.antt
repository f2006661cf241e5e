use Rattle.std.proofs.Common.{refl}
use Rattle.dm_lintim.proofs.ReaderLemmas.{no_mark}
use Rattle.dm_lintim.proofs.records.reader_of.Goals as goal

pub returns-clause-records : goal.returns-clause-records
returns-clause-records c = rw (c.from_reader.ensures.source, no_mark c.args.bytes.now c.requires) refl
