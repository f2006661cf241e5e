use Rattle.std.proofs.Common.{get_or, arith, sym, subst, ◌∙◌}
use Rattle.dm_propagate.specs.Inside.Flags.{FlagsValue, FixesNoOther}
use Rattle.std.proofs.lemmas.Option.{slice_get-get_or}
use Rattle.dm_rows.specs.declared.messages.Flip.TheVariants.{Keep}
use Rattle.dm_propagate.proofs.Around.{taken_up_next}
use Rattle.dm_propagate.proofs.HeldLemmas.{refused_after}
use Rattle.dm_propagate.proofs.turning.take_up_by_flips.Goals as goal

pub returns-in-Err-clause-refused : goal.returns-in-Err-clause-refused
returns-in-Err-clause-refused g c =
    refused_after c.args.day.now.net.now c.args.day.now.rows.now c.args.priced.now.live c.loop-flip.priced.live c.take_up_by_flip.new.priced.live c.loop-flip.invariant.2.held c.in-Err.ensures.refused

pub loop-flip-preserved : goal.loop-flip-preserved
loop-flip-preserved g c = (
  c.take_up_by_flip.ensures.priced,
  c.take_up_by_flip.ensures.flags ∙ c.loop-flip.invariant.1,
  taken_up_next c.args.day.now.net.now c.args.day.now.rows.now c.args.flips.now c.loop-flip.flip-index (get_or c.args.flips.now c.loop-flip.flip-index (Keep 0))
      (slice_get-get_or c.args.flips.now c.loop-flip.flip-index (Keep 0) (omega arith)) c.args.priced.now.live c.loop-flip.priced.live c.take_up_by_flip.new.priced.live
      c.loop-flip.invariant.2 c.in-Ok.ensures.taken,
)

pub take_up_by_flip-requires-clause-open : goal.take_up_by_flip-requires-clause-open
take_up_by_flip-requires-clause-open g c = subst (λ (f : FlagsValue). FixesNoOther c.args.day.now.rows.now f.fixed) (sym c.loop-flip.invariant.1) c.requires.open
