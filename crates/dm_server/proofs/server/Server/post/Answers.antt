use Rattle.dm_server.specs.Answers.{base_of}
use Rattle.dm_server.proofs.After.{holds_given, holds_more, IsLegalAfter}
use Rattle.dm_server.proofs.server.Server.post.Goals as goal

pub returns-in-Ok-clause-legal : goal.returns-in-Ok-clause-legal
returns-in-Ok-clause-legal g c =
    let gains = c.in-Ok.ensures.entered in
    holds_more IsLegalAfter c.args.pass.now c.take-held.new.pass c.add.new.pass c.give.new.pass c.take-held.result.state.table.value c.enter-answer.new.self.table.value c.args.entry c.in-Ok.n c.take-held.ensures.held c.take-held.ensures.base gains c.add.ensures c.give.ensures gains.legal

pub returns-in-Err-clause-legal : goal.returns-in-Err-clause-legal
returns-in-Err-clause-legal g c =
    holds_given IsLegalAfter c.args.pass.now c.take-held.new.pass c.give-in-Err.new.pass (base_of c.take-held.result.state.table.value) c.take-held.result.state.table.value.history c.take-held.ensures.held c.take-held.ensures.base c.give-in-Err.ensures c.reveal.ensures.table.legal
