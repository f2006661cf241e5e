use Rattle.std.proofs.Common.{ℕ, arith, subst}
use Rattle.std.specs.Prelude.{Option}
use Rattle.dm_check_plans.specs.Inside.Visiting.{IsOwnCost}
use Rattle.dm_check_plans.proofs.Told.{inner_dear, inner_told}
use Rattle.dm_check_plans.proofs.grounds.Grounds.is_true_inner.Goals as goal

pub returns-in_default : goal.returns-in_default
returns-in_default c = λ budget t.
    (subst (λ (o : Option ℕ). IsOwnCost c.args.self.now.net.now c.args.self.now.rows.now c.args.self.now.penalty o) c.in_default.is c.requires.own) t.own_cost t.of_rows

pub returns-then-own-cost : goal.returns-then-own-cost
returns-then-own-cost c = λ budget.
    inner_dear c.args.self.now.net.now c.args.self.now.rows.now c.args.self.now.penalty budget c.args.problem.now.path c.args.problem.now.timetable.kept.times c.requires.solved.least
    c.in-Some.own c.cost.result c.args.choice
    (subst (λ (o : Option ℕ). IsOwnCost c.args.self.now.net.now c.args.self.now.rows.now c.args.self.now.penalty o) c.in-Some.is c.requires.own) c.cost.ensures (omega arith)

pub returns : goal.returns
returns c = λ budget.
    inner_told c.args.self.now.net.now c.args.self.now.rows.now c.args.self.now.penalty budget c.args.problem.now.path c.args.problem.now.timetable.kept.times c.requires.solved.least
    c.reveal.ensures.network c.requires.solved.no_cycle c.in-Some.own c.cost.result c.args.choice c.is_violated.result
    (subst (λ (o : Option ℕ). IsOwnCost c.args.self.now.net.now c.args.self.now.rows.now c.args.self.now.penalty o) c.in-Some.is c.requires.own) c.cost.ensures (omega arith) c.is_violated.ensures
