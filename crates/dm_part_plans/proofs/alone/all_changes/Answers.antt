use Rattle.std.proofs.Common.{ap, sym, ◌∙◌}
use Rattle.dm_network.specs.declared.parts.Activity.{Activity}
use Rattle.dm_network.specs.Net.{activity_at}
use Rattle.dm_part_bounds.specs.OnePart.{changes}
use Rattle.dm_part_plans.proofs.Listing.{one_listed, one_passed_by}
use Rattle.dm_part_plans.proofs.alone.all_changes.Goals.{then-changes+in_ok-push, else-changes}
use Rattle.dm_part_plans.proofs.alone.all_changes.Goals as goal

pub loop-a-preserved : goal.loop-a-preserved
loop-a-preserved c =
    elim c.if-changes.branch [
      | then-changes+in_ok-push w ↦
          rw (w.ids-is, w.in_ok-push.ensures.items)
          (one_listed (changes c.args.net.now) (λ a. (activity_at c.args.net.now a).id) c.loop-a.a c.loop-a.ids.items _ c.loop-a.invariant
          (sym c.changes.ensures ∙ w.if-changes.true) (ap (λ (x : Activity). x.id) w.activity.ensures))
      | else-changes w ↦
          rw w.ids-is
          (one_passed_by (changes c.args.net.now) (λ a. (activity_at c.args.net.now a).id) c.loop-a.a c.loop-a.ids.items c.loop-a.invariant
          (sym c.changes.ensures ∙ w.if-changes.false))
    ]
