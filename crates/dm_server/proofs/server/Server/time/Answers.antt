use Rattle.dm_server.specs.Answers.{base_of}
use Rattle.dm_server.proofs.After.{holds_given, IsLegalAfter}
use Rattle.dm_server.proofs.server.Server.time.Goals as goal

pub returns-in-Ok-clause-legal : goal.returns-in-Ok-clause-legal
returns-in-Ok-clause-legal g c =
    holds_given IsLegalAfter c.args.pass.now c.take-held.new.pass c.give.new.pass (base_of c.take-held.result.state.table.value) c.take-held.result.state.table.value.history c.take-held.ensures.held c.take-held.ensures.base c.give.ensures c.reveal.ensures.table.legal

pub returns-in-Err-clause-legal : goal.returns-in-Err-clause-legal
returns-in-Err-clause-legal g c =
    holds_given IsLegalAfter c.args.pass.now c.take-held.new.pass c.give.new.pass (base_of c.take-held.result.state.table.value) c.take-held.result.state.table.value.history c.take-held.ensures.held c.take-held.ensures.base c.give.ensures c.reveal.ensures.table.legal
