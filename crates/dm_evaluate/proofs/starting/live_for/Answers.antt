use Rattle.std.proofs.Common.{Bool, List, [], length, sym, ap, subst, ◌∙◌}
use Rattle.dm_live.specs.Live.{is_fixed, RefusesLive}
use Rattle.dm_live.proofs.Resting.{none_of}
use Rattle.dm_rows.specs.Relax.{is_relaxed_active}
use Rattle.dm_settle.specs.Constraints.{ConstraintsValue}
use Rattle.dm_times.specs.Constraints.{AreConstraintsHolding}
use Rattle.dm_evaluate.proofs.Rooted.{has_root_cycle}
use Rattle.dm_evaluate.proofs.starting.live_for.Goals as goal

pub returns-in-Ok-clause-live : goal.returns-in-Ok-clause-live
returns-in-Ok-clause-live c = record {
  live = c.in-Ok.ensures.live;
  none_fixed = λ i. ap (λ (f : List Bool). is_fixed f i) c.in-Ok.ensures.fixed ∙ none_of (length c.args.net.now.events) i;
  held = subst (λ (given : ConstraintsValue). AreConstraintsHolding c.args.net.now c.args.rows.now (is_relaxed_active c.args.net.now c.args.rows.now []) given)
      (sym c.in-Ok.ensures.given) c.in_ok-constraints.ensures;
}

pub root_cycle-requires-clause-cyclic : goal.root_cycle-requires-clause-cyclic
root_cycle-requires-clause-cyclic c =
    has_root_cycle c.args.net.now c.args.rows.now c.in_ok-constraints.constraints c.in_ok-constraints.ensures
    (subst (RefusesLive c.args.net.now c.in_ok-constraints.constraints) c.in-Err-Cyclic.field-0-is c.in-Err-Cyclic.ensures.refused)
