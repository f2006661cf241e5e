use Rattle.std.proofs.Common.{◌≡◌, subst}
use Rattle.dm_rows.specs.Cost.{cost_of}
use Rattle.dm_table.specs.Value.{TableValue}
use Rattle.dm_table.proofs.table.Table.cost_now.Goals as goal

pub returns-clause-cost : goal.returns-clause-cost
returns-clause-cost c =
    subst (λ (t : TableValue). c.cost.result ≡ cost_of t.network t.rows t.times t.penalty) c.self.view_is c.cost.ensures.cost
