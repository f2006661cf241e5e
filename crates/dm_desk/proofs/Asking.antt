-- What the plans among the items of a feed are, and what asking for one and adopting one comes to.
use Rattle.std.proofs.Common.{◌≡◌, ℕ, ◌+◌, ◌<◌, ◌≤◌, cond, List, [], ◌∷◌, ◌++◌, length, Option, None, IfSome, refl, sym, ap, subst, ◌∙◌, arith, fold, zero-add}
use Rattle.std.specs.Borrow.{Bor}
use Rattle.std.specs.Prelude.{count_by, Result}
use Rattle.std.specs.declared.alloc.AllocError.{AllocError}
use Rattle.std.proofs.lemmas.List.Sums.{sum_by-cons, sum_by_push}
use Rattle.dm_base.specs.declared.limits.TheConstants.{BUDGET}
use Rattle.dm_feed.specs.declared.grammar.Line.{Line}
use Rattle.dm_feed.specs.declared.grammar.Line.TheVariants as line
use Rattle.dm_rows.specs.declared.messages.Entry.{Entry}
use Rattle.dm_rows.specs.declared.rows.Snapshot.{Snapshot}
use Rattle.dm_rows.specs.Rows.{RowsValue}
use Rattle.dm_tree.specs.declared.plans.Plan.{Plan}
use Rattle.dm_tree.specs.declared.adopting.Chosen.{Chosen}
use Rattle.dm_tree.specs.Plans.{whole_task, IsTruePlan}
use Rattle.dm_parts.specs.declared.parts.PlanByParts.{PlanByParts}
use Rattle.dm_parts.specs.declared.kinds.AnyPlan.{AnyPlan}
use Rattle.dm_parts.specs.declared.kinds.AnyPlan.TheVariants.{Whole, ByParts}
use Rattle.dm_parts.specs.Parts.{IsTruePlanByParts}
use Rattle.dm_desk.specs.declared.searches.Search.{Search}
use Rattle.dm_desk.specs.declared.searches.Search.TheVariants.{Plan as ForPlan, Solve as ForParts}
use Rattle.dm_cert.specs.declared.replies.LogItem.{LogItem}
use Rattle.dm_cert.specs.declared.replies.LogItem.TheVariants.{Malformed, Answered}
use Rattle.dm_cert.specs.declared.replies.Reply.TheVariants as reply
use Rattle.dm_cert.specs.Answers.{Setting, rows_after, plan_limit, IsBudget, is_plan, plan_after, reply_with, IsTrueReply, IsTrueAnswer}
use Rattle.dm_cert.specs.Logs.{AreTrueAnswers}
use Rattle.dm_desk.specs.Desks.{DeskValue, GoesOn, IsAdoptable}
use Rattle.dm_cert.proofs.SpelledTrue.{true_is_spelled}
use Rattle.dm_desk.specs.Planning.{budget_of, PlansUnder}
use Rattle.dm_desk.specs.Answered.{times, AreTrueOf}
use Rattle.dm_desk.specs.Inside.Replies.{HasPlans, Replies, IsFoundFor, asks}
use Rattle.dm_desk.proofs.Answering.{no_shorter}

-- ---- the plans that a feed has had

module _ (desk : DeskValue) (feed : ℕ) where
  -- an item is no plan, or one before which there were few and whose choices may be adopted
  record KeepsPlans (before : List LogItem) (latest : Option Chosen) (x : LogItem) : Type 0 where
    few : count_by is_plan before ≤ desk.setting.plans → count_by is_plan before + cond (is_plan x) 1 0 ≤ desk.setting.plans
    may : IfSome latest (IsAdoptable desk) → IfSome (plan_after latest x) (IsAdoptable desk)

  no_plan : (before : List LogItem) (latest : Option Chosen) (x : LogItem) → is_plan x ≡ is_plan (Malformed 0) → plan_after latest x ≡ latest → KeepsPlans before latest x
  no_plan before latest x none same = record {
    few = λ le. omega (arith, ap {B = ℕ} (λ b. cond b 1 0) none);
    may = λ h. subst (λ (o : Option Chosen). IfSome o (IsAdoptable desk)) (sym same) h;
  }

  planned : (before : List LogItem) (latest : Option Chosen) (here : ℕ) (said : Line) (plan : Plan) → IsTrueReply desk.setting desk.seen feed before here said (reply.Planned plan) → KeepsPlans before latest (Answered here said (reply.Planned plan))
  planned before latest here (line.Say m) plan t = absurd t
  planned before latest here (line.Time e) plan t = absurd t
  planned before latest here line.CostNow plan t = absurd t
  planned before latest here (line.Plan budget) plan t = record {
    few = λ le. omega (arith, t.fewer);
    may = λ h. record { within = t.within; may = record { free = t.is_true.choices; no_cycle = t.is_true.cost.no_cycle } };
  }
  planned before latest here (line.Solve budget) plan t = absurd t
  planned before latest here line.Adopt plan t = absurd t
  planned before latest here line.Carry plan t = absurd t
  planned before latest here line.Read plan t = absurd t

  solved : (before : List LogItem) (latest : Option Chosen) (here : ℕ) (said : Line) (plan : PlanByParts) → IsTrueReply desk.setting desk.seen feed before here said (reply.Solved plan) → KeepsPlans before latest (Answered here said (reply.Solved plan))
  solved before latest here (line.Say m) plan t = absurd t
  solved before latest here (line.Time e) plan t = absurd t
  solved before latest here line.CostNow plan t = absurd t
  solved before latest here (line.Plan budget) plan t = absurd t
  solved before latest here (line.Solve budget) plan t = record {
    few = λ le. omega (arith, t.fewer);
    may = λ h. record { within = t.within; may = record { free = t.is_true.choices; no_cycle = t.is_true.cost.no_cycle } };
  }
  solved before latest here line.Adopt plan t = absurd t
  solved before latest here line.Carry plan t = absurd t
  solved before latest here line.Read plan t = absurd t

  keeps_plans : (before : List LogItem) (latest : Option Chosen) (x : LogItem) → IsTrueAnswer desk.setting desk.seen feed before x → KeepsPlans before latest x
  keeps_plans before latest (Malformed here) t = no_plan before latest (Malformed here) refl refl
  keeps_plans before latest (Answered here said (reply.Ok n)) t = no_plan before latest (Answered here said (reply.Ok n)) refl refl
  keeps_plans before latest (Answered here said (reply.Refused at)) t = no_plan before latest (Answered here said (reply.Refused at)) refl refl
  keeps_plans before latest (Answered here said (reply.Time n x)) t = no_plan before latest (Answered here said (reply.Time n x)) refl refl
  keeps_plans before latest (Answered here said (reply.Cost n x)) t = no_plan before latest (Answered here said (reply.Cost n x)) refl refl
  keeps_plans before latest (Answered here said (reply.Read n)) t = no_plan before latest (Answered here said (reply.Read n)) refl refl
  keeps_plans before latest (Answered here said (reply.Planned plan)) t = planned before latest here said plan t
  keeps_plans before latest (Answered here said (reply.Solved plan)) t = solved before latest here said plan t
  keeps_plans before latest (Answered here said (reply.Old n)) t = no_plan before latest (Answered here said (reply.Old n)) refl refl
  keeps_plans before latest (Answered here said reply.NoPlan) t = no_plan before latest (Answered here said reply.NoPlan) refl refl
  keeps_plans before latest (Answered here said reply.Plans) t = no_plan before latest (Answered here said reply.Plans) refl refl
  keeps_plans before latest (Answered here said (reply.Range b)) t = no_plan before latest (Answered here said (reply.Range b)) refl refl

  plans_in_all : (before : List LogItem) (latest : Option Chosen) (items : List LogItem) → AreTrueAnswers desk.setting desk.seen feed before items → count_by is_plan before ≤ desk.setting.plans → IfSome latest (IsAdoptable desk)
      → (count_by is_plan before + count_by is_plan items ≤ desk.setting.plans) × IfSome (fold plan_after latest items) (IsAdoptable desk)
  plans_in_all before latest [] t few is = (omega arith, is)
  plans_in_all before latest (x ∷ items) t few is =
      let k = keeps_plans before latest x t.0 in
      let grown : count_by is_plan (before ++ x ∷ []) ≡ count_by is_plan before + cond (is_plan x) 1 0 = sum_by_push (λ y. cond (is_plan y) 1 0) before x in
      let more : count_by is_plan (x ∷ items) ≡ cond (is_plan x) 1 0 + count_by is_plan items = sum_by-cons (λ y. cond (is_plan y) 1 0) x items in
      let rest = plans_in_all (before ++ x ∷ []) (plan_after latest x) items t.1 (omega (arith, grown, k.few few)) (k.may is) in
      (omega (arith, rest.0, grown, more), rest.1)

  pub has_plans : (items : List LogItem) → AreTrueOf desk feed items → HasPlans desk items
  has_plans items t = let all = plans_in_all [] None items t (omega arith) tt in record { few = omega (arith, all.0); latest = all.1 }

-- ---- asking for a plan

pub still_plans : (pre : Bor Snapshot → Search → Type 0) (post : Bor Snapshot → Search → Result AnyPlan AllocError → Type 0) (before now : DeskValue) →
    GoesOn before now → PlansUnder pre post before.setting → PlansUnder pre post now.setting
still_plans pre post before now on p = subst (PlansUnder pre post) (sym on.setting) p

-- so many nodes may be asked for in texts of version 2
pub within_budget : (s : Setting) (budget : ℕ) → s.version ≡ 2 → 1 ≤ budget → budget ≤ BUDGET → IsBudget s budget
within_budget s budget version some few = (some, subst (λ (v : ℕ). budget ≤ plan_limit v) (sym version) few)

-- what was found is the reply
same_plan : (s : Setting) (budget : ℕ) (plan : Plan) (rows other : RowsValue) → rows ≡ other → IsTruePlan (whole_task s.net rows s.penalty budget) plan → IsTruePlan (whole_task s.net other s.penalty budget) plan
same_plan s budget plan rows other e t = subst (λ (r : RowsValue). IsTruePlan (whole_task s.net r s.penalty budget) plan) e t

same_parts : (s : Setting) (budget : ℕ) (plan : PlanByParts) (rows other : RowsValue) → rows ≡ other → IsTruePlanByParts (whole_task s.net rows s.penalty budget) plan → IsTruePlanByParts (whole_task s.net other s.penalty budget) plan
same_parts s budget plan rows other e t = subst (λ (r : RowsValue). IsTruePlanByParts (whole_task s.net r s.penalty budget) plan) e t

rows_there : (s : Setting) (history : List Entry) (snapshot : Snapshot) (entry : ℕ) → snapshot.rows ≡ rows_after s history snapshot.entry → entry ≡ snapshot.entry → snapshot.rows ≡ rows_after s history entry
rows_there s history snapshot entry rows here = rows ∙ ap (rows_after s history) (sym here)

pub found_replies : (before now : DeskValue) (feed here : ℕ) (items : List LogItem) (search : Search) (found : AnyPlan) → IsBudget before.setting (budget_of search) → count_by is_plan items < before.setting.plans
    → IsFoundFor before now search found → Replies before now feed here items (asks search) (reply_with found)
found_replies before now feed here items (ForPlan budget) (Whole plan) in_range fewer f =
    let goes_on : GoesOn before now = f.copied.looks.goes_on in
    let grown : length before.seen ≤ length now.seen = no_shorter before.seen now.seen goes_on.later in
    let at : plan.entry ≡ length now.seen = f.finds.entry ∙ f.copied.here in
    record {
      goes_on = goes_on;
      is_true = record {
        within = omega (arith, at);
        in_range = subst (λ (s : Setting). IsBudget s budget) (sym goes_on.setting) in_range;
        fewer = subst (λ (s : Setting). count_by is_plan items < s.plans) (sym goes_on.setting) fewer;
        is_true =
            same_plan now.setting budget plan f.snapshot.rows (rows_after now.setting now.seen plan.entry)
            (rows_there now.setting now.seen f.snapshot plan.entry f.copied.rows f.finds.entry) f.finds.is_true;
      };
      between = (omega (arith, at, grown), omega (arith, at));
      spelled = tt;
      named = λ n. zero-add (times n before.mine) ∙ ap (times n) (sym f.copied.looks.mine);
    }
found_replies before now feed here items (ForPlan budget) (ByParts plan) in_range fewer f = absurd f.finds
found_replies before now feed here items (ForParts budget) (Whole plan) in_range fewer f = absurd f.finds
found_replies before now feed here items (ForParts budget) (ByParts plan) in_range fewer f =
    let goes_on : GoesOn before now = f.copied.looks.goes_on in
    let grown : length before.seen ≤ length now.seen = no_shorter before.seen now.seen goes_on.later in
    let at : plan.entry ≡ length now.seen = f.finds.entry ∙ f.copied.here in
    record {
      goes_on = goes_on;
      is_true = record {
        within = omega (arith, at);
        in_range = subst (λ (s : Setting). IsBudget s budget) (sym goes_on.setting) in_range;
        fewer = subst (λ (s : Setting). count_by is_plan items < s.plans) (sym goes_on.setting) fewer;
        is_true =
            same_parts now.setting budget plan f.snapshot.rows (rows_after now.setting now.seen plan.entry)
            (rows_there now.setting now.seen f.snapshot plan.entry f.copied.rows f.finds.entry) f.finds.is_true;
      };
      between = (omega (arith, at, grown), omega (arith, at));
      spelled = true_is_spelled _ plan f.finds.is_true f.finds.few_ids;
      named = λ n. zero-add (times n before.mine) ∙ ap (times n) (sym f.copied.looks.mine);
    }
