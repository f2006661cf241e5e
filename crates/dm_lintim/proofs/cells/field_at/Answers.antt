use Rattle.csv.specs.Records.{fields_of}
use Rattle.dm_lintim.proofs.CellLemmas.{cell_at_none, cell_at_some}
use Rattle.dm_lintim.proofs.cells.field_at.Goals as goal

pub returns-in-Some : goal.returns-in-Some
returns-in-Some c = cell_at_some (fields_of c.args.fields.now) c.args.place c.in-Some.field.now c.in-Some.ensures.value

pub returns-in-None : goal.returns-in-None
returns-in-None c = cell_at_none (fields_of c.args.fields.now) c.args.place c.in-None.ensures.value
