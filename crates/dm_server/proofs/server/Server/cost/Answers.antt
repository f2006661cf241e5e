use Rattle.dm_server.specs.Answers.{base_of, CostsAfter}
use Rattle.dm_server.proofs.After.{holds_given, IsLegalAfter}
use Rattle.dm_server.proofs.server.Server.cost.Goals as goal

pub returns-clause-cost : goal.returns-clause-cost
returns-clause-cost g c =
    holds_given (λ base history. CostsAfter base history c.cost-cost.result) c.args.pass.now c.take-held.new.pass c.give.new.pass (base_of c.take-held.result.state.table.value) c.take-held.result.state.table.value.history c.take-held.ensures.held c.take-held.ensures.base c.give.ensures c.cost-cost.ensures

pub returns-clause-legal : goal.returns-clause-legal
returns-clause-legal g c =
    holds_given IsLegalAfter c.args.pass.now c.take-held.new.pass c.give.new.pass (base_of c.take-held.result.state.table.value) c.take-held.result.state.table.value.history c.take-held.ensures.held c.take-held.ensures.base c.give.ensures c.reveal.ensures.table.legal
