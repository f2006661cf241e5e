use Rattle.std.proofs.Common.{sym, subst}
use Rattle.dm_propagate.specs.Inside.Flags.{FlagsValue, FixesNoOther}
use Rattle.dm_propagate.proofs.Around.{in_row_below, out_row_below, taken_up_around}
use Rattle.dm_propagate.proofs.HeldLemmas.{refused_after}
use Rattle.dm_propagate.proofs.turning.take_up_around.Goals as goal

pub take_up-requires-clause-are_activities : goal.take_up-requires-clause-are_activities
take_up-requires-clause-are_activities c = in_row_below c.args.day.now.net.now c.args.event c.args.into.now c.requires.into

pub take_up-requires-2-clause-are_activities : goal.take_up-requires-2-clause-are_activities
take_up-requires-2-clause-are_activities c = out_row_below c.args.day.now.net.now c.args.event c.args.out.now c.requires.out

pub returns-in-Ok-take_up-clause-taken : goal.returns-in-Ok-take_up-clause-taken
returns-in-Ok-take_up-clause-taken c =
    taken_up_around c.args.day.now.net.now c.args.day.now.rows.now c.args.event c.args.into.now c.args.out.now c.requires.into c.requires.out
    c.args.priced.now.live c.take_up.new.priced.live c.take_up-2.new.priced.live c.in-Ok.ensures.taken c.in-Ok-take_up.ensures.taken

pub returns-in-Err-take_up-clause-refused : goal.returns-in-Err-take_up-clause-refused
returns-in-Err-take_up-clause-refused c =
    refused_after c.args.day.now.net.now c.args.day.now.rows.now c.args.priced.now.live c.take_up.new.priced.live c.take_up-2.new.priced.live c.in-Ok.ensures.taken.held c.in-Err-take_up.ensures.refused

pub take_up-requires-2-clause-open : goal.take_up-requires-2-clause-open
take_up-requires-2-clause-open c = subst (λ (f : FlagsValue). FixesNoOther c.args.day.now.rows.now f.fixed) (sym c.take_up.ensures.flags) c.requires.open
