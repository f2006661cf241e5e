use Rattle.std.proofs.Common.{refl}
use Rattle.dm_words.specs.Asked.{command_of}
use Rattle.dm_commands.proofs.Asked.{command_within}
use Rattle.dm_commands.proofs.Closing.{ends_usage}
use Rattle.dm_commands.proofs.top.dispatch_with.Goals as goal

pub do_command-requires-clause-within : goal.do_command-requires-clause-within
do_command-requires-clause-within g c = λ lifetimes bounds. command_within _ (command_of c.in-Some.command) c.in-Some.ensures

pub returns-in-Some-clause-ends : goal.returns-in-Some-clause-ends
returns-in-Some-clause-ends g c = c.do_command.ensures.ends _ c.in-Some.ensures

pub returns-in-None-clause-ends : goal.returns-in-None-clause-ends
returns-in-None-clause-ends g c =
    ends_usage g.K.Sink.taken g.K.Sink.faults _ _ _ _ c.args.out.now c.end_usage.new.out c.end_usage.result refl c.in-None.ensures c.end_usage.ensures
