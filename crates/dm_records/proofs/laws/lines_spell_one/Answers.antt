use Rattle.dm_records.proofs.LinesOnce as LinesOnce
use Rattle.dm_records.proofs.laws.lines_spell_one.Goals as goal

pub returns : goal.returns
returns c = LinesOnce.lines_spell_one
