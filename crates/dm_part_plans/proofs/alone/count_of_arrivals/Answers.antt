use Rattle.std.proofs.Common.{sym, ◌∙◌, arith}
use Rattle.dm_part_bounds.specs.OnePart.{arrives}
use Rattle.dm_part_plans.proofs.Listing.{one_counted, none_counted}
use Rattle.dm_part_plans.proofs.alone.count_of_arrivals.Goals.{then-arrives, else-arrives}
use Rattle.dm_part_plans.proofs.alone.count_of_arrivals.Goals as goal

pub loop-i-preserved : goal.loop-i-preserved
loop-i-preserved c =
    let before = c.loop-i.invariant.low in
    elim c.if-arrives.branch [
      | then-arrives w ↦
          let is = w.count-is in
          record {
            count = is ∙ one_counted (arrives c.args.net.now) c.loop-i.i c.loop-i.count c.loop-i.invariant.count (sym c.arrives.ensures ∙ w.if-arrives.true);
            low = omega (arith, before, is);
          }
      | else-arrives w ↦
          let is = w.count-is in
          record {
            count = is ∙ none_counted (arrives c.args.net.now) c.loop-i.i c.loop-i.count c.loop-i.invariant.count (sym c.arrives.ensures ∙ w.if-arrives.false);
            low = omega (arith, before, is);
          }
    ]
