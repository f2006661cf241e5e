use Rattle.std.proofs.Common.{true, sym, subst}
use Rattle.dm_propagate.specs.Inside.Flags.{FlagsValue, FixesNoOther}
use Rattle.dm_propagate.proofs.Around.{taken_up_at_pair}
use Rattle.dm_propagate.proofs.HeldLemmas.{refused_after}
use Rattle.dm_propagate.proofs.turning.take_up_pair.Goals as goal

pub returns-in-Ok-take_up-clause-taken : goal.returns-in-Ok-take_up-clause-taken
returns-in-Ok-take_up-clause-taken g c =
    taken_up_at_pair c.args.day.now.net.now c.args.day.now.rows.now c.args.pair true c.rows_of_pair.result.0.now c.rows_of_pair.result.1.now
    c.rows_of_pair.ensures.small c.rows_of_pair.ensures.large
    c.args.priced.now.live c.take_up.new.priced.live c.take_up-2.new.priced.live c.in-Ok.ensures.taken c.in-Ok-take_up.ensures.taken

pub returns-in-Err-take_up-clause-refused : goal.returns-in-Err-take_up-clause-refused
returns-in-Err-take_up-clause-refused g c =
    refused_after c.args.day.now.net.now c.args.day.now.rows.now c.args.priced.now.live c.take_up.new.priced.live c.take_up-2.new.priced.live c.in-Ok.ensures.taken.held c.in-Err-take_up.ensures.refused

pub take_up-requires-2-clause-open : goal.take_up-requires-2-clause-open
take_up-requires-2-clause-open g c = subst (λ (f : FlagsValue). FixesNoOther c.args.day.now.rows.now f.fixed) (sym c.take_up.ensures.flags) c.requires.open
