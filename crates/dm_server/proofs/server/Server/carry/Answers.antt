use Rattle.dm_server.specs.Answers.{base_of, carries, RefusesAfter}
use Rattle.dm_server.proofs.After.{entered_after, refused_given, holds_given, holds_more, IsLegalAfter}
use Rattle.dm_server.proofs.server.Server.carry.Goals as goal

pub returns-in-Ok-clause-entered : goal.returns-in-Ok-clause-entered
returns-in-Ok-clause-entered g c =
    entered_after c.args.pass.now c.take-held.new.pass c.add.new.pass c.give.new.pass c.take-held.result.state.table.value c.carry-answer.new.self.table.value
    (λ base history. carries base history c.args.choices.now c.args.feed c.args.line) c.in-Ok.n c.take-held.ensures.held c.requires.idle
    c.take-held.ensures.base c.take-held.ensures.later c.in-Ok.ensures.entered c.add.ensures c.give.ensures

pub returns-in-Ok-clause-legal : goal.returns-in-Ok-clause-legal
returns-in-Ok-clause-legal g c =
    let table = c.take-held.result.state.table.value in
    let gains = c.in-Ok.ensures.entered in
    holds_more IsLegalAfter c.args.pass.now c.take-held.new.pass c.add.new.pass c.give.new.pass table c.carry-answer.new.self.table.value
    (carries (base_of table) table.history c.args.choices.now c.args.feed c.args.line) c.in-Ok.n c.take-held.ensures.held c.take-held.ensures.base gains
    c.add.ensures c.give.ensures gains.legal

pub returns-in-Err-clause-legal : goal.returns-in-Err-clause-legal
returns-in-Err-clause-legal g c =
    holds_given IsLegalAfter c.args.pass.now c.take-held.new.pass c.give-in-Err.new.pass (base_of c.take-held.result.state.table.value) c.take-held.result.state.table.value.history c.take-held.ensures.held c.take-held.ensures.base c.give-in-Err.ensures c.reveal.ensures.table.legal

pub returns-in-Err-clause-refused : goal.returns-in-Err-clause-refused
returns-in-Err-clause-refused g c =
    let table = c.take-held.result.state.table.value in
    refused_given (λ base history. RefusesAfter base history (carries base history c.args.choices.now c.args.feed c.args.line).message c.in-Err.at.why)
    c.args.pass.now c.take-held.new.pass c.give-in-Err.new.pass (base_of table) table.history c.take-held.ensures.held c.take-held.ensures.base
    c.give-in-Err.ensures c.in-Err.ensures.refused
