use Rattle.csv.specs.Records.{fields_of}
use Rattle.dm_lintim.proofs.ReaderLemmas.{takes_first}
use Rattle.dm_lintim.proofs.records.read_one.Goals as goal

pub returns : goal.returns
returns c =
    let plain = c.requires in
    let read = c.in-Ok.ensures in
    takes_first c.args.reader.now c.read_byte_record.new.self c.in-Ok.found (fields_of c.read_byte_record.new.row) plain (read.ready plain.trim) (read.reads plain.trim plain.ready)
