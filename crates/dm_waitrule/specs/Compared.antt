-- A rule beside a plan.
use Rattle.std.specs.Prelude.{ℕ, ◌≤◌}
use Rattle.dm_network.specs.Net.{Net}
use Rattle.dm_rows.specs.Cost.{Costs}
use Rattle.dm_rows.specs.Decide.{with_decisions}
use Rattle.dm_rows.specs.Rows.{RowsValue}
use Rattle.dm_tree.specs.Plans.{whole_task}
use Rattle.dm_waitrule.specs.Kinds.{bound_of, IsTrueAny}
use Rattle.dm_waitrule.specs.declared.comparing.Comparison.{Comparison}
use Rattle.dm_waitrule.specs.declared.rule.WaitRule.{WaitRule}
use Rattle.dm_waitrule.specs.Rules.{AreRuleChoices}

-- The choices are the rule's, with them the rows cost this, and the plan is a true one of its kind, of the rows for the budget, whose
-- bound this is not below.
pub record Compares (net : Net) (rows : RowsValue) (penalty budget : ℕ) (rule : WaitRule) (compared : Comparison) : Type 0 where
  pub choices : AreRuleChoices net rows rule compared.choices
  pub cost : Costs net (with_decisions net rows compared.choices) penalty compared.cost
  pub plan : IsTrueAny (whole_task net rows penalty budget) compared.plan
  pub no_less : bound_of compared.plan ≤ compared.cost
