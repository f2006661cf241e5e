-- A plan of either kind that is put behind the items before it.
use Rattle.std.proofs.Common.{◌≡◌, ℕ, ◌+◌, ◌<◌, cond, List, [], ◌∷◌, ◌++◌, Some, None, sym, ap, subst, ◌∙◌, arith}
use Rattle.std.proofs.lemmas.List.Sums.{fold_push, sum_by_push}
use Rattle.dm_feed.specs.declared.grammar.Line.{Line}
use Rattle.dm_tree.specs.declared.adopting.Chosen.{Chosen}
use Rattle.dm_tree.specs.declared.plans.Plan.{Plan}
use Rattle.dm_tree.specs.Plans.{chosen}
use Rattle.dm_parts.specs.declared.parts.PlanByParts.{PlanByParts}
use Rattle.dm_parts.specs.declared.kinds.AnyPlan.{AnyPlan}
use Rattle.dm_parts.specs.declared.kinds.AnyPlan.TheVariants.{Whole, ByParts}
use Rattle.dm_parts.specs.Kinds.{chosen_of}
use Rattle.dm_cert.specs.declared.limits.TheConstants.{PLANS}
use Rattle.dm_cert.specs.declared.replies.LogItem.{LogItem}
use Rattle.dm_cert.specs.declared.replies.LogItem.TheVariants.{Answered}
use Rattle.dm_cert.specs.declared.replies.Reply.TheVariants.{Planned, Solved}
use Rattle.dm_cert.specs.Answers.{is_plan, plan_after, reply_with}
use Rattle.dm_cert.specs.Logs.{kind_of, line_of, number_after}
use Rattle.dm_check_answers.specs.declared.past.Past.{Past}
use Rattle.dm_check_answers.specs.Judging.{IsPast}

abbrev behind : ℕ → Chosen → Past → Past
behind line plan past = record { line = line; number = plan.entry; latest = Some plan; plans = past.plans + 1 }

whole_added : (before : List LogItem) (line : ℕ) (said : Line) (plan : Plan) (past : Past) → past.plans < PLANS → IsPast before past →
    IsPast (before ++ Answered line said (Planned plan) ∷ []) (behind line (chosen plan.entry plan.choices) past)
whole_added before line said plan past few h = record {
  line = sym (fold_push (λ last y. line_of y) 0 before (Answered line said (Planned plan)));
  number = sym (fold_push (λ last y. number_after last (kind_of y)) 0 before (Answered line said (Planned plan)));
  latest = sym (fold_push plan_after None before (Answered line said (Planned plan)));
  plans =
      ap (λ (k : ℕ). k + 1) h.plans
      ∙ sym (sum_by_push (λ y. cond (is_plan y) 1 0) before (Answered line said (Planned plan)));
  few = omega arith;
}

parts_added : (before : List LogItem) (line : ℕ) (said : Line) (plan : PlanByParts) (past : Past) → past.plans < PLANS → IsPast before past →
    IsPast (before ++ Answered line said (Solved plan) ∷ []) (behind line (chosen plan.entry plan.choices) past)
parts_added before line said plan past few h = record {
  line = sym (fold_push (λ last y. line_of y) 0 before (Answered line said (Solved plan)));
  number = sym (fold_push (λ last y. number_after last (kind_of y)) 0 before (Answered line said (Solved plan)));
  latest = sym (fold_push plan_after None before (Answered line said (Solved plan)));
  plans =
      ap (λ (k : ℕ). k + 1) h.plans
      ∙ sym (sum_by_push (λ y. cond (is_plan y) 1 0) before (Answered line said (Solved plan)));
  few = omega arith;
}

pub plan_added : (before : List LogItem) (line : ℕ) (said : Line) (given : AnyPlan) (plan : Chosen) (past : Past) → chosen_of given ≡ plan →
    past.plans < PLANS → IsPast before past → IsPast (before ++ Answered line said (reply_with given) ∷ []) (behind line plan past)
plan_added before line said (Whole p) plan past same few h =
    subst (λ (c : Chosen). IsPast (before ++ Answered line said (Planned p) ∷ []) (behind line c past)) same
    (whole_added before line said p past few h)
plan_added before line said (ByParts p) plan past same few h =
    subst (λ (c : Chosen). IsPast (before ++ Answered line said (Solved p) ∷ []) (behind line c past)) same
    (parts_added before line said p past few h)
