use Rattle.std.proofs.Common.{ℕ, Ok, subst}
use Rattle.dm_desk.specs.declared.searches.Search.{Search}
use Rattle.dm_tree.specs.Plans.{whole_task}
use Rattle.dm_waitrule.specs.Kinds.{IsTrueAny}
use Rattle.dm_commands.specs.Ruled.{IsOfKind}
use Rattle.dm_commands.proofs.Found.{found_is, compares_for}
use Rattle.dm_commands.proofs.ruling.comparison_of.Goals as goal

pub compare-requires-clause-no_cycle : goal.compare-requires-clause-no_cycle
compare-requires-clause-no_cycle g c = rw (c.network-net.ensures, c.in_ok-snapshot.ensures.rows) c.reveal.ensures.table.no_cycle

pub returns : goal.returns
returns g c =
    let finds = c.requires.searches.gives _ (Ok c.in_ok-plan.plan) c.in_ok-plan.ensures in
    let found = found_is _ _ _ c.search_for.result c.in_ok-plan.plan finds in
    let is_true =
    subst (λ (n : ℕ). IsTrueAny (whole_task c.network-net.result.now c.in_ok-snapshot.snapshot.rows c.penalty-penalty.result n) c.in_ok-plan.plan) c.search_for.ensures.budget found.0 in
    let kind = subst (λ (s : Search). IsOfKind s c.in_ok-plan.plan) c.search_for.ensures.search found.1 in
    compares_for c.args.asked _ _ _ c.in_ok-plan.plan c.compare.result kind
    (rw (c.network-net.ensures, c.in_ok-snapshot.ensures.rows, c.penalty-penalty.ensures, c.rule_named.ensures) at
    (c.compare.ensures.compares c.args.asked.budget is_true)) c.compare.ensures.plan
