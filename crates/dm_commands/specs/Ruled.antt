-- What is printed of a waiting rule that is set beside a plan.
use Rattle.std.specs.Prelude.{ℕ, ◌≡◌, List, length}
use Rattle.dm_network.specs.Net.{Net}
use Rattle.dm_rows.specs.declared.messages.Entry.{Entry}
use Rattle.dm_rows.specs.History.{rows_at}
use Rattle.dm_rows.specs.Rows.{RowsValue}
use Rattle.dm_follow.specs.Followed.{IsFollowed, IsWhole}
use Rattle.dm_parts.specs.declared.kinds.AnyPlan.{AnyPlan}
use Rattle.dm_parts.specs.declared.kinds.AnyPlan.TheVariants.{Whole, ByParts}
use Rattle.dm_desk.specs.declared.searches.Search.{Search}
use Rattle.dm_desk.specs.declared.searches.Search.TheVariants.{Plan as ForPlan, Solve as ForParts}
use Rattle.dm_ruling.specs.Texts.{comparison_text}
use Rattle.dm_waitrule.specs.Compared.{Compares}
use Rattle.dm_waitrule.specs.declared.comparing.Comparison.{Comparison}
use Rattle.dm_waitrule.specs.declared.rule.WaitRule.{WaitRule}
use Rattle.dm_waitrule.specs.declared.rule.WaitRule.TheVariants as wait
use Rattle.dm_commands.specs.Searching.{search_for}
use Rattle.dm_words.specs.declared.queries.RuleWord.{RuleWord}
use Rattle.dm_words.specs.declared.queries.RuleWord.TheVariants.{Never, Always, AtMost}
use Rattle.dm_words.specs.declared.queries.RulesWords.{RulesWords}

-- the rule of a word
abbrev pub rule_named : RuleWord → WaitRule
rule_named Never = wait.Never
rule_named Always = wait.Always
rule_named (AtMost seconds) = wait.AtMost seconds

-- the plan is of the kind that is searched for
abbrev pub IsOfKind : Search → AnyPlan → Type 0
IsOfKind (ForPlan budget) (Whole plan) = Unit {0}
IsOfKind (ForPlan budget) (ByParts plan) = ⊥
IsOfKind (ForParts budget) (Whole plan) = ⊥
IsOfKind (ForParts budget) (ByParts plan) = Unit {0}

-- a comparison of the rule with a plan for these rows, of the kind that is asked for
pub record ComparesFor (asked : RulesWords) (net : Net) (rows : RowsValue) (penalty : ℕ) (compared : Comparison) : Type 0 where
  pub compares : Compares net rows penalty asked.budget (rule_named asked.rule) compared
  pub kind : IsOfKind (search_for asked.solve asked.budget) compared.plan

-- The text is a comparison of the rule with a plan for the rows after all entries of the journal, which stands whole in these bytes.
pub record IsComparisonOf (asked : RulesWords) (net : Net) (start : RowsValue) (penalty : ℕ) (bytes text : List ℕ) : Type 0 where
  pub whole : IsWhole net start penalty bytes
  pub history : List Entry
  pub followed : IsFollowed net start penalty bytes history
  pub compared : Comparison
  pub answer : ComparesFor asked net (rows_at net start history (length history)) penalty compared
  pub is_text : text ≡ comparison_text (rule_named asked.rule) compared
