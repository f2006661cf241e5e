use Rattle.std.proofs.Common.{refl, subst}
use Rattle.dm_words.specs.Asked.{command_of, check_of, gen_of, query_of}
use Rattle.dm_words.specs.Words.{Asks}
use Rattle.dm_words.specs.declared.command.CommandWords.{CommandWords}
use Rattle.dm_commands.specs.Inside.Stages.{IsWithin}
use Rattle.dm_commands.proofs.Answered.{ends_queried}
use Rattle.dm_commands.proofs.Checked.{ends_checked}
use Rattle.dm_commands.proofs.Generated.{ends_generated}
use Rattle.dm_commands.proofs.top.do_command.Goals as goal

pub returns-in-Check-clause-ends : goal.returns-in-Check-clause-ends
returns-in-Check-clause-ends g c = λ words asks.
    ends_checked g.K.Sink.taken g.K.Sink.faults _ _ _ words c.args.out.now c.check_text.new.out (check_of c.in-Check.check)
    (subst (λ (x : CommandWords). Asks words (command_of x)) c.in-Check.is asks) refl c.check_text.result c.check_text.ensures.ends

pub returns-in-Gen-clause-ends : goal.returns-in-Gen-clause-ends
returns-in-Gen-clause-ends g c = λ words asks.
    ends_generated g.K.Sink.taken g.K.Sink.faults _ _ _ words c.args.out.now c.generate.new.out (gen_of c.in-Gen.day)
    (subst (λ (x : CommandWords). Asks words (command_of x)) c.in-Gen.is asks) refl c.generate.result c.generate.ensures.ends

pub generate-requires : goal.generate-requires
generate-requires g c = subst (λ (x : CommandWords). IsWithin (command_of x)) c.in-Gen.is c.requires.within

pub returns-in-Query-clause-ends : goal.returns-in-Query-clause-ends
returns-in-Query-clause-ends g c = λ words asks.
    ends_queried g.K.Sink.taken g.K.Sink.faults _ _ _ words c.args.out.now c.answer_query.new.out (query_of c.in-Query.query)
    (subst (λ (x : CommandWords). Asks words (command_of x)) c.in-Query.is asks) refl c.answer_query.result c.answer_query.ensures.ends

pub answer_query-requires-clause-limits : goal.answer_query-requires-clause-limits
answer_query-requires-clause-limits g c = λ lifetimes bounds. (subst (λ (x : CommandWords). IsWithin (command_of x)) c.in-Query.is c.requires.within).limits
