use Rattle.std.proofs.Common.{sym, ◌∙◌, arith}
use Rattle.dm_part_bounds.specs.OnePart.{changes}
use Rattle.dm_part_plans.proofs.Listing.{one_counted, none_counted}
use Rattle.dm_part_plans.proofs.alone.count_of_changes.Goals.{then-changes, else-changes}
use Rattle.dm_part_plans.proofs.alone.count_of_changes.Goals as goal

pub loop-a-preserved : goal.loop-a-preserved
loop-a-preserved c =
    let before = c.loop-a.invariant.low in
    elim c.if-changes.branch [
      | then-changes w ↦
          let is = w.count-is in
          record {
            count = is ∙ one_counted (changes c.args.net.now) c.loop-a.a c.loop-a.count c.loop-a.invariant.count (sym c.changes.ensures ∙ w.if-changes.true);
            low = omega (arith, before, is);
          }
      | else-changes w ↦
          let is = w.count-is in
          record {
            count = is ∙ none_counted (changes c.args.net.now) c.loop-a.a c.loop-a.count c.loop-a.invariant.count (sym c.changes.ensures ∙ w.if-changes.false);
            low = omega (arith, before, is);
          }
    ]
