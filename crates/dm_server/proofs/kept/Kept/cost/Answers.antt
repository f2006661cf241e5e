use Rattle.std.proofs.Common.{◌≡◌, subst}
use Rattle.dm_rows.specs.Cost.{cost_of}
use Rattle.dm_table.specs.Value.{TableValue}
use Rattle.dm_server.proofs.After.{costs_after}
use Rattle.dm_server.proofs.kept.Kept.cost.Goals as goal

pub returns : goal.returns
returns c =
    costs_after c.args.self.now.table.value c.reveal.ensures.table c.cost_now.result
    (subst (λ (t : TableValue). c.cost_now.result ≡ cost_of t.network t.rows t.times t.penalty) c.deref.ensures c.cost_now.ensures.cost)
