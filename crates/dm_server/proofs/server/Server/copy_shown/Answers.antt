use Rattle.dm_server.specs.Answers.{base_of}
use Rattle.dm_server.proofs.After.{holds_given, IsLegalAfter}
use Rattle.dm_server.proofs.server.Server.copy_shown.Goals as goal

pub copy_shown-requires-clause-size : goal.copy_shown-requires-clause-size
copy_shown-requires-clause-size g c = c.requires.size (base_of c.take-held.result.state.table.value) c.take-held.ensures.base

pub copy_shown-requires-clause-flags : goal.copy_shown-requires-clause-flags
copy_shown-requires-clause-flags g c = c.requires.flags (base_of c.take-held.result.state.table.value) c.take-held.ensures.base

pub returns-clause-legal : goal.returns-clause-legal
returns-clause-legal g c =
    holds_given IsLegalAfter c.args.pass.now c.take-held.new.pass c.give.new.pass (base_of c.take-held.result.state.table.value) c.take-held.result.state.table.value.history c.take-held.ensures.held c.take-held.ensures.base c.give.ensures c.reveal.ensures.table.legal
