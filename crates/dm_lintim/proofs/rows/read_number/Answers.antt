use Rattle.dm_lintim.specs.Pieces.{cell_of}
use Rattle.dm_lintim.proofs.DigitLemmas.{number_takes}
use Rattle.dm_lintim.proofs.ValueLemmas.{number_puts}
use Rattle.dm_lintim.proofs.rows.read_number.Goals as goal

pub put-requires-clause-fits : goal.put-requires-clause-fits
put-requires-clause-fits g c = c.in-Some.ensures.fits

pub returns-in-Some-clause-takes : goal.returns-in-Some-clause-takes
returns-in-Some-clause-takes g c =
    number_takes g.R.Row.is_known c.args.column (cell_of c.args.field.now) c.in-Some.number c.in-Some.ensures

pub returns-in-Some-clause-puts : goal.returns-in-Some-clause-puts
returns-in-Some-clause-puts g c =
    number_puts g.R.Row.names c.args.column (cell_of c.args.field.now) c.in-Some.number c.args.values.now.numbers c.put.new.self.numbers
    c.args.values.now.kind c.put.new.self.kind c.in-Some.ensures c.put.ensures.numbers c.put.ensures.kind
