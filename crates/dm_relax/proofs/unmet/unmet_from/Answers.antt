use Rattle.std.proofs.Common.{sym, ap, ◌∙◌, inl, inr, length, ◌<◌, arith}
use Rattle.dm_network.specs.declared.parts.Activity.{Activity}
use Rattle.dm_paths.proofs.Agreeing.{pair_joins}
use Rattle.dm_relax.proofs.Flagging.{unmet_marked, unmet_of_its_pair, unmet_of_no_pair}
use Rattle.dm_relax.proofs.unmet.unmet_from.Goals as goal
use Rattle.dm_relax.proofs.unmet.unmet_from.Goals.{in-Some+then-goes_out_of+then-comes_too_early, in-Some+else-goes_out_of, else-goes_out_of-via-then-goes_out_of+else-comes_too_early, else-goes_out_of-via-else-goes_out_of, in_default}

pub loop-a-preserved : goal.loop-a-preserved
loop-a-preserved c =
    let net = c.args.net.now in
    let below : c.loop-a.a < length net.activities = omega (arith, c.loop-a-test.true, c.activities-a-end.ensures.count) in
    elim c.match-activity.branch [
      | in-Some+then-goes_out_of+then-comes_too_early w ↦
          let own = ap (λ (x : Activity). x.pair) (sym c.activity.ensures) ∙ w.in-Some.is in
          rw w.flags-is
          (unmet_marked net c.args.rows.now c.args.times.now c.args.small c.loop-a.a w.in-Some.p c.loop-a.flags.items
          (pair_joins net c.reveal.ensures.network c.loop-a.a w.in-Some.p below own).is_pair own (sym w.goes_out_of.ensures ∙ w.if-goes_out_of.true)
          (sym w.comes_too_early.ensures ∙ w.if-comes_too_early.true) c.loop-a.invariant)
      | in-Some+else-goes_out_of w ↦
          let own = ap (λ (x : Activity). x.pair) (sym c.activity.ensures) ∙ w.in-Some.is in
          rw w.flags-is
          (unmet_of_its_pair net c.args.rows.now c.args.times.now c.args.small c.loop-a.a w.in-Some.p c.loop-a.flags.items own
          (elim w.else-goes_out_of.branch [
            | else-goes_out_of-via-then-goes_out_of+else-comes_too_early v ↦ inr (sym v.comes_too_early.ensures ∙ v.if-comes_too_early.false)
            | else-goes_out_of-via-else-goes_out_of v ↦ inl (sym w.goes_out_of.ensures ∙ v.if-goes_out_of.false)
          ]) c.loop-a.invariant)
      | in_default w ↦
          rw w.flags-is
          (unmet_of_no_pair net c.args.rows.now c.args.times.now c.args.small c.loop-a.a c.loop-a.flags.items
          (ap (λ (x : Activity). x.pair) (sym c.activity.ensures) ∙ w.in_default.is) c.loop-a.invariant)
    ]
