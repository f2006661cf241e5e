use Rattle.std.proofs.Common.{inr}
use Rattle.dm_cert.specs.SolvedRead.{IsPartHeadingLine}
use Rattle.dm_cert.proofs.SolvedLinesRead.{reads_part_heading}
use Rattle.dm_cert.proofs.Lined.{told_cut, told_misshapen, told_value}
use Rattle.dm_cert.proofs.solved_reading.part_heading_line.Goals as goal

pub returns-in_default : goal.returns-in_default
returns-in_default c =
    inr (told_cut (IsPartHeadingLine c.args.left.parts c.args.left.nodes c.args.left.ids) _ _ c.line-number.ensures c.in_default.ensures.0)

pub returns-in_default-part_heading_in : goal.returns-in_default-part_heading_in
returns-in_default-part_heading_in c =
    inr (told_misshapen (IsPartHeadingLine c.args.left.parts c.args.left.nodes c.args.left.ids) _ _ _ _ _ c.line-number.ensures c.in-Some.ensures
    (reads_part_heading _ _ _ _) c.in_default-part_heading_in.ensures)

pub returns : goal.returns
returns c =
    told_value (IsPartHeadingLine c.args.left.parts c.args.left.nodes c.args.left.ids) _ _ _ _ _ c.in-Some.ensures
    (reads_part_heading _ _ _ _) c.in-Some-part_heading_in.ensures
