use Rattle.std.proofs.Common.{inr}
use Rattle.dm_cert.specs.SolvedRead.{IsRestLine}
use Rattle.dm_cert.proofs.SolvedLinesRead.{reads_rest}
use Rattle.dm_cert.proofs.Lined.{told_cut, told_misshapen, told_value}
use Rattle.dm_cert.proofs.solved_reading.rest_line.Goals as goal

pub returns-in_default : goal.returns-in_default
returns-in_default c = inr (told_cut IsRestLine _ _ c.line-number.ensures c.in_default.ensures.0)

pub returns-in_default-rest_in : goal.returns-in_default-rest_in
returns-in_default-rest_in c =
    inr (told_misshapen IsRestLine _ _ _ _ _ c.line-number.ensures c.in-Some.ensures (reads_rest _) c.in_default-rest_in.ensures)

pub returns : goal.returns
returns c = told_value IsRestLine _ _ _ _ _ c.in-Some.ensures (reads_rest _) c.in-Some-rest_in.ensures
