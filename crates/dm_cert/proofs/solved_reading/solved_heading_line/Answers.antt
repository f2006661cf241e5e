use Rattle.std.proofs.Common.{inr}
use Rattle.dm_cert.specs.SolvedRead.{IsSolvedHeadingLine}
use Rattle.dm_cert.proofs.SolvedLinesRead.{reads_solved_heading}
use Rattle.dm_cert.proofs.Lined.{told_cut, told_misshapen, told_value}
use Rattle.dm_cert.proofs.solved_reading.solved_heading_line.Goals as goal

pub returns-in_default : goal.returns-in_default
returns-in_default c = inr (told_cut IsSolvedHeadingLine _ _ c.line-number.ensures c.in_default.ensures.0)

pub returns-in_default-solved_heading_in : goal.returns-in_default-solved_heading_in
returns-in_default-solved_heading_in c =
    inr (told_misshapen IsSolvedHeadingLine _ _ _ _ _ c.line-number.ensures c.in-Some.ensures (reads_solved_heading _) c.in_default-solved_heading_in.ensures)

pub returns : goal.returns
returns c = told_value IsSolvedHeadingLine _ _ _ _ _ c.in-Some.ensures (reads_solved_heading _) c.in-Some-solved_heading_in.ensures
