use Rattle.dm_lintim.specs.Pieces.{cell_of}
use Rattle.dm_lintim.proofs.DigitLemmas.{number_takes}
use Rattle.dm_lintim.proofs.ValueLemmas.{number_puts}
use Rattle.dm_lintim.proofs.rows.read_any_number.Goals as goal

pub put-requires-clause-fits : goal.put-requires-clause-fits
put-requires-clause-fits g c = c.in_ok-number.ensures.number.fits

pub returns-clause-takes : goal.returns-clause-takes
returns-clause-takes g c =
    number_takes g.R.Row.is_known c.args.column (cell_of c.args.field.now) c.in_ok-number.number c.in_ok-number.ensures.number

pub returns-clause-puts : goal.returns-clause-puts
returns-clause-puts g c =
    number_puts g.R.Row.names c.args.column (cell_of c.args.field.now) c.in_ok-number.number c.args.values.now.numbers c.put.new.self.numbers
    c.args.values.now.kind c.put.new.self.kind c.in_ok-number.ensures.number c.put.ensures.numbers c.put.ensures.kind
