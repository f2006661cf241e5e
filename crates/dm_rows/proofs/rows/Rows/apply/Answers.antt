use Rattle.dm_rows.proofs.Setting.{adopting_keeps_sizes}
use Rattle.dm_rows.proofs.rows.Rows.apply.Goals as goal

pub returns-in-Adopted-clause-sizes : goal.returns-in-Adopted-clause-sizes
returns-in-Adopted-clause-sizes c =
    adopting_keeps_sizes c.args.self.now c.set_all.new.self c.as_slice.result.now c.set_all.ensures
