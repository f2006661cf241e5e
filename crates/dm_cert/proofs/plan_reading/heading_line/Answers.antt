use Rattle.std.proofs.Common.{inr}
use Rattle.dm_cert.specs.PlansRead.{IsHeadingLine}
use Rattle.dm_cert.proofs.HeadingsRead.{reads_heading}
use Rattle.dm_cert.proofs.Lined.{told_cut, told_misshapen, told_value}
use Rattle.dm_cert.proofs.plan_reading.heading_line.Goals as goal

pub returns-in_default : goal.returns-in_default
returns-in_default c = inr (told_cut (IsHeadingLine c.args.version) _ _ c.line-number.ensures c.in_default.ensures.0)

pub returns-in_default-heading_in : goal.returns-in_default-heading_in
returns-in_default-heading_in c =
    inr (told_misshapen (IsHeadingLine c.args.version) _ _ _ _ _ c.line-number.ensures c.in-Some.ensures (reads_heading _ _) c.in_default-heading_in.ensures)

pub returns : goal.returns
returns c = told_value (IsHeadingLine c.args.version) _ _ _ _ _ c.in-Some.ensures (reads_heading _ _) c.in-Some-heading_in.ensures
