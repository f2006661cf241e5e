-- What holds of the choices of every waiting rule.
use Rattle.std.specs.Prelude.{ℕ, ◌≡◌, ◌≤◌, List}
use Rattle.dm_network.specs.Net.{Net}
use Rattle.dm_network.specs.Start.{IsNetwork}
use Rattle.dm_rows.specs.declared.messages.Decision.{Decision}
use Rattle.dm_rows.specs.Active.{HasNoCycle}
use Rattle.dm_rows.specs.Cost.{Costs}
use Rattle.dm_rows.specs.Decide.{with_decisions}
use Rattle.dm_rows.specs.Rows.{RowsValue, IsSized}
use Rattle.dm_tree.specs.Plans.{whole_task}
use Rattle.dm_parts.specs.declared.kinds.AnyPlan.{AnyPlan}
use Rattle.dm_waitrule.specs.Kinds.{bound_of, IsTrueAny}
use Rattle.dm_waitrule.specs.declared.rule.WaitRule.{WaitRule}
use Rattle.dm_waitrule.specs.Rules.{AreRuleChoices}

-- A rule has one list of choices for rows. Where the rows have no cycle, they have none with these, and cost no less with
-- them than the bound of any true plan, of either kind, of the rows.
pub record RuleChoicesAreBounded : Type 0 where
  pub one : (net : Net) (rows : RowsValue) (rule : WaitRule) (choices others : List Decision) → IsNetwork net →
      AreRuleChoices net rows rule choices → AreRuleChoices net rows rule others → choices ≡ others
  pub no_cycle : (net : Net) (rows : RowsValue) (rule : WaitRule) (choices : List Decision) → IsNetwork net → IsSized net rows →
      HasNoCycle net rows → AreRuleChoices net rows rule choices → HasNoCycle net (with_decisions net rows choices)
  pub bound : (net : Net) (rows : RowsValue) (rule : WaitRule) (choices : List Decision) (penalty budget c : ℕ) (plan : AnyPlan) →
      IsNetwork net → IsSized net rows → HasNoCycle net rows → AreRuleChoices net rows rule choices →
      Costs net (with_decisions net rows choices) penalty c → IsTrueAny (whole_task net rows penalty budget) plan →
      bound_of plan ≤ c
