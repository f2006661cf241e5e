use Rattle.std.proofs.Common.{refl, sym, subst, ◌∙◌, slice_index}
use Rattle.dm_propagate.specs.Inside.Flags.{FlagsValue, FixesNoOther}
use Rattle.dm_propagate.specs.Inside.Turning.{IsAmong}
use Rattle.dm_propagate.proofs.HeldLemmas.{next_taken_up, refused_later}
use Rattle.dm_propagate.proofs.held.take_up.Goals as goal

pub returns-in-Err-clause-refused : goal.returns-in-Err-clause-refused
returns-in-Err-clause-refused c =
    refused_later c.args.day.now.net.now c.args.day.now.rows.now (IsAmong c.args.acts.now c.loop-a.a-index) c.args.priced.now.live c.loop-a.priced.live c.take_up_one.new.priced.live
    c.loop-a.invariant.2 c.in-Err.ensures.refused

pub take_up_one-requires-clause-open : goal.take_up_one-requires-clause-open
take_up_one-requires-clause-open c = subst (λ (f : FlagsValue). FixesNoOther c.args.day.now.rows.now f.fixed) (sym c.loop-a.invariant.1) c.requires.open

pub loop-a-preserved : goal.loop-a-preserved
loop-a-preserved c =
    let acts = c.args.acts.now in
    let had = c.loop-a.invariant in (
      c.in-Ok.ensures.priced,
      c.in-Ok.ensures.flags ∙ had.1,
      next_taken_up c.args.day.now.net.now c.args.day.now.rows.now acts c.loop-a.a-index (slice_index acts c.loop-a.a-index) c.args.priced.now.live c.loop-a.priced.live
          c.take_up_one.new.priced.live refl had.2 c.in-Ok.ensures.taken,
    )
