use Rattle.std.proofs.Common.{ap, sym, ◌∙◌}
use Rattle.dm_network.specs.declared.parts.Event.{Event}
use Rattle.dm_network.specs.Net.{event_at}
use Rattle.dm_part_bounds.specs.OnePart.{arrives}
use Rattle.dm_part_plans.proofs.Listing.{one_listed, one_passed_by}
use Rattle.dm_part_plans.proofs.alone.all_arrivals.Goals.{then-arrives+in_ok-push, else-arrives}
use Rattle.dm_part_plans.proofs.alone.all_arrivals.Goals as goal

pub loop-i-preserved : goal.loop-i-preserved
loop-i-preserved c =
    elim c.if-arrives.branch [
      | then-arrives+in_ok-push w ↦
          rw (w.ids-is, w.in_ok-push.ensures.items)
          (one_listed (arrives c.args.net.now) (λ i. (event_at c.args.net.now i).id) c.loop-i.i c.loop-i.ids.items _ c.loop-i.invariant
          (sym c.arrives.ensures ∙ w.if-arrives.true) (ap (λ (e : Event). e.id) w.event.ensures))
      | else-arrives w ↦
          rw w.ids-is
          (one_passed_by (arrives c.args.net.now) (λ i. (event_at c.args.net.now i).id) c.loop-i.i c.loop-i.ids.items c.loop-i.invariant
          (sym c.arrives.ensures ∙ w.if-arrives.false))
    ]
