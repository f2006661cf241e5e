use Rattle.std.proofs.Common.{subst}
use Rattle.dm_table.specs.Value.{IsTable}
use Rattle.dm_table.proofs.Kept.{kept_is_table}
use Rattle.dm_table.proofs.table.Table.reveal.Goals as goal

pub returns-clause-table : goal.returns-clause-table
returns-clause-table c =
    let t = c.self.inside in
    subst IsTable c.self.view_is
    (kept_is_table t.net.now t.start t.penalty t.history.entries t.engine t.history.spare t.room c.reveal.ensures.network.formed.ends_are_known c.self.invariant.0)
