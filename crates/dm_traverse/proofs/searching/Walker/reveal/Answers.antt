use Rattle.std.proofs.Common.{subst}
use Rattle.dm_network.specs.Start.{IsNetwork}
use Rattle.dm_rows.specs.Decide.{IsChoiceList}
use Rattle.dm_tree.specs.Plans.{Task}
use Rattle.dm_traverse.proofs.searching.Walker.reveal.Goals as goal

pub returns-clause-network : goal.returns-clause-network
returns-clause-network c = subst (λ (t : Task). IsNetwork t.net) c.self.view_is c.reveal.ensures.network

pub returns-clause-base : goal.returns-clause-base
returns-clause-base c = subst (λ (t : Task). IsChoiceList t.net t.rows t.base) c.self.view_is c.self.invariant.0.decides
