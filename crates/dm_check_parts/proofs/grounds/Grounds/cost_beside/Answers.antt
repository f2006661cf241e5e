use Rattle.std.proofs.Common.{◌≡◌, ◌+◌, ◌-◌, ◌≤◌, ℕ, List, take, arith, sym, subst}
use Rattle.std.specs.Prelude.{sum_by}
use Rattle.std.proofs.lemmas.List.{take_all}
use Rattle.dm_tree.specs.Relaxed.{relaxed_cost_of}
use Rattle.dm_parts.specs.declared.parts.Part.{Part}
use Rattle.dm_parts.specs.Shares.{within, IsShare}
use Rattle.dm_check_plans.specs.RelaxedProblems.{times_of}
use Rattle.dm_check_parts.proofs.Lists.{holds_here, few_here, is_left, takes_one}
use Rattle.dm_check_parts.proofs.Together.{parts_are_few}
use Rattle.dm_check_parts.proofs.grounds.Grounds.cost_beside.Goals as goal

pub loop-part-init : goal.loop-part-init
loop-part-init c = omega (arith, c.cost-left.ensures)

pub cost_within-left-requires-clause-share : goal.cost_within-left-requires-clause-share
cost_within-left-requires-clause-share c =
    holds_here (λ (part : Part). IsShare c.args.self.now.net.now part.share) c.args.parts.now c.loop-part.part-index c.part-item.result c.loop-part-test.true c.part-item.is c.requires.shares

pub cost_within-left-requires-clause-few : goal.cost_within-left-requires-clause-few
cost_within-left-requires-clause-few c = few_here c.args.parts.now c.loop-part.part-index c.part-item.result c.loop-part-test.true c.part-item.is c.requires.few

pub overflow_sub-left : goal.overflow_sub-left
overflow_sub-left c =
    subst (λ (n : ℕ). n ≤ c.loop-part.left) (sym c.cost_within-left.ensures.cost)
    (is_left (λ (part : Part). relaxed_cost_of (within c.args.self.now.net.now part.share) c.args.self.now.rows.now c.args.problem.now.path (times_of c.args.problem.now) c.args.self.now.penalty) c.args.parts.now c.loop-part.part-index c.part-item.result c.loop-part.left (relaxed_cost_of c.args.self.now.net.now c.args.self.now.rows.now c.args.problem.now.path (times_of c.args.problem.now) c.args.self.now.penalty)
    c.loop-part-test.true c.part-item.is c.loop-part.invariant (parts_are_few c.args.self.now.net.now c.args.self.now.rows.now c.args.self.now.penalty c.args.self.now.budget c.args.parts.now c.args.problem.now.path (times_of c.args.problem.now) c.requires.apart))

pub loop-part-preserved : goal.loop-part-preserved
loop-part-preserved c =
    subst (λ (n : ℕ). (c.loop-part.left - n) + sum_by (λ (part : Part). relaxed_cost_of (within c.args.self.now.net.now part.share) c.args.self.now.rows.now c.args.problem.now.path (times_of c.args.problem.now) c.args.self.now.penalty) (take (c.loop-part.part-index + 1) c.args.parts.now) ≡ (relaxed_cost_of c.args.self.now.net.now c.args.self.now.rows.now c.args.problem.now.path (times_of c.args.problem.now) c.args.self.now.penalty)) (sym c.cost_within-left.ensures.cost)
    (takes_one (λ (part : Part). relaxed_cost_of (within c.args.self.now.net.now part.share) c.args.self.now.rows.now c.args.problem.now.path (times_of c.args.problem.now) c.args.self.now.penalty) c.args.parts.now c.loop-part.part-index c.part-item.result c.loop-part.left (relaxed_cost_of c.args.self.now.net.now c.args.self.now.rows.now c.args.problem.now.path (times_of c.args.problem.now) c.args.self.now.penalty)
    c.loop-part-test.true c.part-item.is c.loop-part.invariant (parts_are_few c.args.self.now.net.now c.args.self.now.rows.now c.args.self.now.penalty c.args.self.now.budget c.args.parts.now c.args.problem.now.path (times_of c.args.problem.now) c.requires.apart))

pub returns : goal.returns
returns c =
    subst (λ (parts : List Part). c.loop-part.left + sum_by (λ (part : Part). relaxed_cost_of (within c.args.self.now.net.now part.share) c.args.self.now.rows.now c.args.problem.now.path (times_of c.args.problem.now) c.args.self.now.penalty) parts ≡ (relaxed_cost_of c.args.self.now.net.now c.args.self.now.rows.now c.args.problem.now.path (times_of c.args.problem.now) c.args.self.now.penalty)) (take_all c.loop-part.part-index c.args.parts.now c.loop-part-test.false) c.loop-part.invariant
