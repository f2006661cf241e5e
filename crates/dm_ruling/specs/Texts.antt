-- The text of a rule beside a plan.
use Rattle.std.specs.Prelude.{ℕ, ◌-◌, List, [], ◌∷◌, ◌++◌, length, codes}
use Rattle.std.specs.Fmt.{decimal}
use Rattle.std.specs.List.{flat_map}
use Rattle.dm_outside.specs.Printing.{joined}
use Rattle.dm_cert.specs.PlanTexts.{choice_text, mark_text, line_end}
use Rattle.dm_parts.specs.declared.kinds.AnyPlan.{AnyPlan}
use Rattle.dm_parts.specs.declared.kinds.AnyPlan.TheVariants.{Whole, ByParts}
use Rattle.dm_tree.specs.declared.forms.Mark.{Mark}
use Rattle.dm_waitrule.specs.declared.comparing.Comparison.{Comparison}
use Rattle.dm_waitrule.specs.declared.rule.WaitRule.{WaitRule}
use Rattle.dm_waitrule.specs.declared.rule.WaitRule.TheVariants.{Never, Always, AtMost}

-- the word of a rule, a number without leading zeros
abbrev pub rule_word : WaitRule → List ℕ
rule_word Never = codes "never"
rule_word Always = codes "always"
rule_word (AtMost seconds) = decimal seconds

unfoldable pub rule_text : WaitRule → List ℕ
rule_text rule = joined (codes "rule " ∷ rule_word rule ∷ [])

-- what the rows cost with its choices, and how many these are
unfoldable pub cost_text : Comparison → List ℕ
cost_text compared =
    joined (codes " cost " ∷ decimal compared.cost ∷ codes " choices " ∷ decimal (length compared.choices) ∷ line_end ∷ [])

-- a plan of a kind, and by how much the rule's cost is above its bound
unfoldable pub gap_line : List ℕ → Mark → ℕ → ℕ → ℕ → List ℕ
gap_line kind mark cost bound above =
    joined (kind ∷ mark_text mark ∷ codes " cost " ∷ decimal cost ∷ codes " bound " ∷ decimal bound ∷ codes "\ngap "
    ∷ decimal above ∷ line_end ∷ [])

abbrev pub gap_text : ℕ → AnyPlan → List ℕ
gap_text cost (Whole plan) = gap_line (codes "plan ") plan.mark plan.cost plan.bound (cost - plan.bound)
gap_text cost (ByParts plan) = gap_line (codes "solved ") plan.mark plan.cost plan.bound (cost - plan.bound)

-- all that is told beside the rule
unfoldable pub compared_text : Comparison → List ℕ
compared_text compared = cost_text compared ++ (flat_map choice_text compared.choices ++ gap_text compared.cost compared.plan)

unfoldable pub comparison_text : WaitRule → Comparison → List ℕ
comparison_text rule compared = rule_text rule ++ compared_text compared
