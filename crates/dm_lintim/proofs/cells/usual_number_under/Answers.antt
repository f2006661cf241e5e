use Rattle.std.proofs.Common.{◌≤◌, arith}
use Rattle.dm_lintim.specs.Files.{largest_of}
use Rattle.dm_lintim.specs.Pieces.{cell_of}
use Rattle.dm_lintim.proofs.DigitLemmas.{usual_is}
use Rattle.dm_lintim.proofs.cells.usual_number_under.Goals as goal

pub returns : goal.returns
returns c =
    let usual = c.in-Some.ensures.value in
    let fits : c.in_units-number.result ≤ largest_of c.args.column = omega (arith, c.largest.ensures) in
    usual_is c.args.column (cell_of c.args.field.now) c.in-Some.digits c.in_units-number.result c.requires usual.0 usual.1 c.in_units-number.ensures fits
