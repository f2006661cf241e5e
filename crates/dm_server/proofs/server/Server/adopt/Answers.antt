use Rattle.std.proofs.Common.{subst}
use mathlib.Core.List.{IsPrefix}
use Rattle.dm_tree.specs.Plans.{chosen}
use Rattle.dm_turn.specs.Passes.{PassValue}
use Rattle.dm_server.specs.declared.kept.Base.{Base}
use Rattle.dm_server.specs.Answers.{base_of, adopts}
use Rattle.dm_server.proofs.After.{adoptable_of_longer, holds_given, holds_more, IsLegalAfter}
use Rattle.dm_server.proofs.server.Server.adopt.Goals as goal

pub adopt-answer-requires : goal.adopt-answer-requires
adopt-answer-requires g c =
    let table = c.take-held.result.state.table.value in
    adoptable_of_longer (base_of table) c.args.pass.now.seen table.history (chosen c.args.entry c.args.choices.now)
    (subst (λ (p : PassValue Base). IsPrefix c.args.pass.now.seen p.seen) c.take-held.ensures.held c.take-held.ensures.later)
    (c.requires.plan (base_of table) c.take-held.ensures.base)

pub returns-in-Ok-clause-legal : goal.returns-in-Ok-clause-legal
returns-in-Ok-clause-legal g c =
    let gains = c.in-Ok.ensures.entered in
    holds_more IsLegalAfter c.args.pass.now c.take-held.new.pass c.add.new.pass c.give.new.pass c.take-held.result.state.table.value c.adopt-answer.new.self.table.value (adopts (chosen c.args.entry c.args.choices.now) c.args.feed c.args.line) c.in-Ok.n c.take-held.ensures.held c.take-held.ensures.base gains c.add.ensures c.give.ensures gains.legal

pub returns-in-Err-clause-legal : goal.returns-in-Err-clause-legal
returns-in-Err-clause-legal g c =
    holds_given IsLegalAfter c.args.pass.now c.take-held.new.pass c.give-in-Err.new.pass (base_of c.take-held.result.state.table.value) c.take-held.result.state.table.value.history c.take-held.ensures.held c.take-held.ensures.base c.give-in-Err.ensures c.reveal.ensures.table.legal
