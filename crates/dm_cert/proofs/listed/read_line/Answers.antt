use Rattle.std.proofs.Common.{refl, inr}
use Rattle.dm_cert.proofs.Lined.{told_cut, told_misshapen, told_value}
use Rattle.dm_cert.proofs.listed.read_line.Goals as goal

pub returns-in_default : goal.returns-in_default
returns-in_default g c = inr (told_cut g.L.Listed.is_line _ _ c.line-number.ensures c.in_default.ensures.0)

pub returns-in_default-read : goal.returns-in_default-read
returns-in_default-read g c =
    inr (told_misshapen g.L.Listed.is_line _ _ _ _ _ c.line-number.ensures c.in-Some.ensures c.in_default-read.ensures refl)

pub returns : goal.returns
returns g c = told_value g.L.Listed.is_line _ _ _ _ _ c.in-Some.ensures c.in-Some-read.ensures refl
