use Rattle.std.proofs.Common.{subst, arith}
use mathlib.Core.List.{IsPrefix}
use Rattle.dm_turn.specs.Passes.{PassValue}
use Rattle.dm_turn.proofs.Fronts.{prefix_length}
use Rattle.dm_server.specs.declared.kept.Base.{Base}
use Rattle.dm_server.specs.Answers.{base_of}
use Rattle.dm_server.proofs.After.{least_of_longer, marks_of_longer, holds_given, IsLegalAfter}
use Rattle.dm_server.proofs.server.Server.follow_times.Goals as goal

pub follow_times-requires-clause-shown : goal.follow_times-requires-clause-shown
follow_times-requires-clause-shown g c =
    let table = c.take-held.result.state.table.value in
    let longer : IsPrefix c.args.pass.now.seen table.history = subst (λ (p : PassValue Base). IsPrefix c.args.pass.now.seen p.seen) c.take-held.ensures.held c.take-held.ensures.later in
    omega (arith, prefix_length c.args.pass.now.seen table.history longer, c.requires.shown)

pub follow_times-requires-clause-times : goal.follow_times-requires-clause-times
follow_times-requires-clause-times g c =
    let table = c.take-held.result.state.table.value in
    least_of_longer (base_of table) c.args.pass.now.seen table.history c.args.shown c.args.into.now
    (subst (λ (p : PassValue Base). IsPrefix c.args.pass.now.seen p.seen) c.take-held.ensures.held c.take-held.ensures.later) c.requires.shown
    (c.requires.times (base_of table) c.take-held.ensures.base)

pub follow_times-requires-clause-flags : goal.follow_times-requires-clause-flags
follow_times-requires-clause-flags g c =
    let table = c.take-held.result.state.table.value in
    marks_of_longer (base_of table) c.args.pass.now.seen table.history c.args.shown c.args.cancelled.now
    (subst (λ (p : PassValue Base). IsPrefix c.args.pass.now.seen p.seen) c.take-held.ensures.held c.take-held.ensures.later) c.requires.shown
    (c.requires.flags (base_of table) c.take-held.ensures.base)

pub follow_times-requires-clause-room : goal.follow_times-requires-clause-room
follow_times-requires-clause-room g c = c.requires.room (base_of c.take-held.result.state.table.value) c.take-held.ensures.base

pub returns-clause-legal : goal.returns-clause-legal
returns-clause-legal g c =
    holds_given IsLegalAfter c.args.pass.now c.take-held.new.pass c.give.new.pass (base_of c.take-held.result.state.table.value) c.take-held.result.state.table.value.history c.take-held.ensures.held c.take-held.ensures.base c.give.ensures c.reveal.ensures.table.legal
