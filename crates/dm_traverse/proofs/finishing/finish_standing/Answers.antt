use Rattle.std.proofs.Common.{◌≡◌, ◌≤◌, ℕ, arith}
use Rattle.std.proofs.lemmas.Result.{IfOk-weaker}
use Rattle.dm_traverse.proofs.Beside.{beside_is_task}
use Rattle.dm_traverse.proofs.Limits.{at_most_itself}
use Rattle.dm_traverse.proofs.Ended.{plan_is_true}
use Rattle.dm_traverse.proofs.Kept.{plan_goes_on}
use Rattle.dm_traverse.specs.Inside.Ending.{IsPlanOf}
use Rattle.dm_traverse.proofs.finishing.finish_standing.Goals as goal

pub returns-clause-plan : goal.returns-clause-plan
returns-clause-plan c =
    IfOk-weaker _ _ _ (λ p of. plan_is_true _ (beside_is_task _ _ _ _ _ c.reveal.ensures.network c.requires.posed) _ _ _ _ _ p
    c.in_ok-searched.ensures.stands c.in_ok-searched.ensures.used (at_most_itself _) of) c.plan_of.ensures

pub returns-clause-entry : goal.returns-clause-entry
returns-clause-entry c = IfOk-weaker _ _ _ (λ p (of : IsPlanOf c.args.entry _ _ _ p). of.of_entry) c.plan_of.ensures

pub returns-clause-cost : goal.returns-clause-cost
returns-clause-cost c = IfOk-weaker _ _ _ (λ p (of : IsPlanOf c.args.entry _ _ _ p). within of.of_cost c.in_ok-searched.ensures.no_dearer) c.plan_of.ensures where
  within : {a b d : ℕ} → a ≡ b → b ≤ d → a ≤ d
  within e le = omega (arith, e, le)

pub returns-clause-goes_on : goal.returns-clause-goes_on
returns-clause-goes_on c = IfOk-weaker _ _ _ (λ p of. plan_goes_on _ _ _ _ _ p c.in_ok-searched.ensures.kept of) c.plan_of.ensures
