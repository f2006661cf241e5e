use Rattle.std.proofs.Common.{◌+◌, ◌<◌, length, ap, ◌∙◌, arith}
use Rattle.std.proofs.lemmas.List.{get_or_default, length_push}
use Rattle.dm_rows.proofs.Adopting.{one_more_named, none_refused}
use Rattle.dm_table.proofs.resolving.resolve.Goals as goal

pub loop-decision-preserved : goal.loop-decision-preserved
loop-decision-preserved c =
    let below : c.loop-decision.decision-index < length c.args.decisions.now = omega arith in
    record {
      named =
          rw c.push_reserved.ensures.items
          (one_more_named c.args.net.now c.args.rows.now c.args.decisions.now c.loop-decision.decision-index
          c.loop-decision.flips.items _ c.in-Ok.flip c.loop-decision.invariant.named below
          (get_or_default c.args.decisions.now c.loop-decision.decision-index _ _ below)
          c.in-Ok.ensures.named c.in-Ok.ensures.reaches c.in-Ok.ensures.passes);
      count =
          ap length c.push_reserved.ensures.items ∙ length_push c.loop-decision.flips.items c.in-Ok.flip
          ∙ ap (λ n. n + 1) c.loop-decision.invariant.count;
      room = c.push_reserved.ensures.capacity ∙ c.loop-decision.invariant.room;
    }

pub returns-clause-passes : goal.returns-clause-passes
returns-clause-passes c =
    none_refused c.args.net.now c.args.rows.now c.args.decisions.now c.loop-decision.decision-index
    c.loop-decision.flips.items c.loop-decision.invariant.named (omega arith)
