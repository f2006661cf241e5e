use Rattle.std.proofs.lemmas.Result.{IfOk-weaker}
use Rattle.dm_team.proofs.Gathered.{pruned_at_end}
use Rattle.dm_team.proofs.Planned.{plan_cheaper}
use Rattle.dm_team.proofs.Starts.{grows_on}
use Rattle.dm_team.proofs.searching.plan_of.Goals as goal

pub finish_with-requires-clause-start : goal.finish_with-requires-clause-start
finish_with-requires-clause-start g c = rw c.into_vec.ensures c.in_ok-partial.ensures.start

pub finish_with-requires-clause-costs : goal.finish_with-requires-clause-costs
finish_with-requires-clause-costs g c = rw c.into_vec.ensures c.requires.found.kept.costs

pub returns-clause-grows : goal.returns-clause-grows
returns-clause-grows g c = IfOk-weaker _ _ _ (λ p on. grows_on _ _ _ _ c.in_ok-partial.ensures.begins on) c.finish_with.ensures.goes_on

pub begun-requires-clause-closed : goal.begun-requires-clause-closed
begun-requires-clause-closed g c =
    let found = c.requires.found in
    record {
      looked = c.args.found.hand.looked;
      pruned = pruned_at_end c.args.found.best.cost c.args.own c.args.found.hand _ found.start found.kept.no_dearer found.listed c.close-least.ensures.least c.close-least.ensures.looked;
      apart = found.apart;
      ends = found.ends;
      kept = found.kept;
    }

pub returns-clause-pruned : goal.returns-clause-pruned
returns-clause-pruned g c = λ lt.
    let found = c.requires.found in
    plan_cheaper c.finish_with.result _ _
    (pruned_at_end c.args.found.best.cost c.args.own c.args.found.hand _ found.start found.kept.no_dearer found.listed c.close-least.ensures.least c.close-least.ensures.looked lt)
    c.finish_with.ensures.cost
