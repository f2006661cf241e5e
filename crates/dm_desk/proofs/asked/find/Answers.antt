use Rattle.std.proofs.Common.{◌≡◌, ◌<◌, ◌≤◌, arith}
use Rattle.std.specs.Prelude.{count_by}
use Rattle.dm_base.specs.declared.limits.TheConstants.{BUDGET}
use Rattle.dm_cert.specs.Answers.{is_plan}
use Rattle.dm_desk.specs.Planning.{budget_of}
use Rattle.dm_desk.proofs.Asking.{within_budget, found_replies}
use Rattle.dm_desk.proofs.asked.find.Goals as goal

pub returns : goal.returns
returns g c = λ feed line.
    let before = g.D.Desk.value c.args.desk.now in
    let now = g.D.Desk.value c.found_for.new.desk in
    let budget : c.budget-budget.result ≡ budget_of c.args.search = c.budget-budget.ensures in
    let some : 1 ≤ budget_of c.args.search = omega (arith, budget, c.if-budget-eq0.false) in
    let few : budget_of c.args.search ≤ BUDGET = omega (arith, budget, c.if-budget-gt-BUDGET.false) in
    let fewer : count_by is_plan c.args.items.now < before.setting.plans =
    omega (arith, c.requires.had.few, c.count_plans.ensures, c.plans.ensures, c.if-count_plans-plans.false) in
    rw c.with.ensures
    (found_replies before now feed line c.args.items.now c.args.search c.in_ok-plan.plan (within_budget before.setting (budget_of c.args.search) c.requires.plans.version some few) fewer
    c.in_ok-plan.ensures)
