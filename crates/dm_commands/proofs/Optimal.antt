-- What a true run gives as optimal costs least, by the laws on plans of either kind.
use Rattle.std.proofs.Common.{◌≡◌, ℕ, ◌+◌, List, [], ◌∷◌, ◌++◌, IfSome, refl, All, take, get_or}
use Rattle.std.proofs.lemmas.List.Elements.{All-nil, All-cons}
use Rattle.std.proofs.lemmas.Option.{slice_get-get_or}
use Rattle.dm_network.specs.Net.{Net}
use Rattle.dm_network.specs.Start.{IsNetwork}
use Rattle.dm_rows.specs.declared.messages.Decision.{Decision}
use Rattle.dm_rows.specs.declared.messages.Entry.{Entry}
use Rattle.dm_rows.specs.Rows.{RowsValue, IsSized}
use Rattle.dm_feed.specs.declared.grammar.Line.{Line}
use Rattle.dm_feed.specs.declared.grammar.Line.TheVariants as line
use Rattle.dm_tree.specs.declared.forms.Mark.{Mark}
use Rattle.dm_tree.specs.declared.forms.Mark.TheVariants.{Optimal, Open}
use Rattle.dm_tree.specs.declared.plans.Plan.{Plan}
use Rattle.dm_tree.specs.Plans.{whole_task, IsOptimal}
use Rattle.dm_traverse.proofs.Optimal.{whole_is_task, optimal_plans_are_optimal}
use Rattle.dm_parts.specs.declared.parts.PlanByParts.{PlanByParts}
use Rattle.dm_part_bounds.proofs.Low.{bounds_by_parts_hold}
use Rattle.dm_cert.specs.declared.replies.FeedLog.{FeedLog}
use Rattle.dm_cert.specs.declared.replies.LogItem.{LogItem}
use Rattle.dm_cert.specs.declared.replies.LogItem.TheVariants.{Malformed, Answered}
use Rattle.dm_cert.specs.declared.replies.Reply.{Reply}
use Rattle.dm_cert.specs.declared.replies.Reply.TheVariants as reply
use Rattle.dm_cert.specs.Answers.{Setting, rows_after, IsTrueReply, IsTrueAnswer}
use Rattle.dm_cert.specs.Logs.{AreTrueAnswers, AreTrueLogs}
use Rattle.dm_cert.specs.RunTexts.{Run, KnowsLine, KnowsReply, KnowsItem, KnowsLog}
use Rattle.dm_cert.specs.Runs.{IsTrueRun, setting_of}
use Rattle.dm_commands.specs.Optimal.{Claim, claimed, claim_in, AreLeast, OptimalIsLeast}
use Rattle.dm_table.proofs.Kept.{entries_keep_sizes}

-- what is optimal for a whole network is least
least_of : (net : Net) (rows : RowsValue) (penalty budget entry cost : ℕ) (choices : List Decision) → IsOptimal (whole_task net rows penalty budget) choices cost →
    AreLeast net rows penalty (record { entry = entry; choices = choices; cost = cost })
least_of net rows penalty budget entry cost choices o = record {
  decides = o.decides;
  no_cycle = o.cost.no_cycle;
  cost = o.cost.cost;
  least = λ others other decides no_cycle costs. o.least others other decides decides.free (record { no_cycle = no_cycle; cost = costs });
}

claims_when : (P : Claim → Type 0) (mark : Mark) (claim : Claim) → (mark ≡ Optimal → P claim) → IfSome (claimed mark claim) P
claims_when P Optimal claim is = is refl
claims_when P Open claim is = tt

module _ (s : Setting) (network : IsNetwork s.net) (sized : IsSized s.net s.start) (history : List Entry) where
  abbrev IsLeastThere : Claim → Type 0
  IsLeastThere claim = AreLeast s.net (rows_after s history claim.entry) s.penalty claim

  sized_after : (n : ℕ) → IsSized s.net (rows_after s history n)
  sized_after n = entries_keep_sizes s.net s.start (take n history) sized

  planned : (feed here : ℕ) (before : List LogItem) (said : Line) (plan : Plan) → IsTrueReply s history feed before here said (reply.Planned plan) →
      IfSome (claim_in (Answered here said (reply.Planned plan))) IsLeastThere
  planned feed here before (line.Say m) plan t = absurd t
  planned feed here before (line.Time e) plan t = absurd t
  planned feed here before line.CostNow plan t = absurd t
  planned feed here before (line.Plan budget) plan t = claims_when IsLeastThere plan.mark _ (λ optimal.
      least_of s.net (rows_after s history plan.entry) s.penalty budget plan.entry plan.cost plan.choices
      (optimal_plans_are_optimal.optimal (whole_task s.net (rows_after s history plan.entry) s.penalty budget) plan
      (whole_is_task s.net (rows_after s history plan.entry) s.penalty budget network (sized_after plan.entry)) t.is_true optimal).0)
  planned feed here before (line.Solve budget) plan t = absurd t
  planned feed here before line.Adopt plan t = absurd t
  planned feed here before line.Carry plan t = absurd t
  planned feed here before line.Read plan t = absurd t

  solved : (feed here : ℕ) (before : List LogItem) (said : Line) (plan : PlanByParts) → IsTrueReply s history feed before here said (reply.Solved plan) →
      IfSome (claim_in (Answered here said (reply.Solved plan))) IsLeastThere
  solved feed here before (line.Say m) plan t = absurd t
  solved feed here before (line.Time e) plan t = absurd t
  solved feed here before line.CostNow plan t = absurd t
  solved feed here before (line.Plan budget) plan t = absurd t
  solved feed here before (line.Solve budget) plan t = claims_when IsLeastThere plan.mark _ (λ optimal.
      least_of s.net (rows_after s history plan.entry) s.penalty budget plan.entry plan.cost plan.choices
      (bounds_by_parts_hold.optimal (whole_task s.net (rows_after s history plan.entry) s.penalty budget) plan
      (whole_is_task s.net (rows_after s history plan.entry) s.penalty budget network (sized_after plan.entry)) t.is_true optimal))
  solved feed here before line.Adopt plan t = absurd t
  solved feed here before line.Carry plan t = absurd t
  solved feed here before line.Read plan t = absurd t

  item_least : (feed : ℕ) (before : List LogItem) (x : LogItem) → IsTrueAnswer s history feed before x → IfSome (claim_in x) IsLeastThere
  item_least feed before (Malformed here) t = tt
  item_least feed before (Answered here said (reply.Ok n)) t = tt
  item_least feed before (Answered here said (reply.Refused at)) t = tt
  item_least feed before (Answered here said (reply.Time n x)) t = tt
  item_least feed before (Answered here said (reply.Cost n x)) t = tt
  item_least feed before (Answered here said (reply.Read n)) t = tt
  item_least feed before (Answered here said (reply.Planned plan)) t = planned feed here before said plan t
  item_least feed before (Answered here said (reply.Solved plan)) t = solved feed here before said plan t
  item_least feed before (Answered here said (reply.Old n)) t = tt
  item_least feed before (Answered here said reply.NoPlan) t = tt
  item_least feed before (Answered here said reply.Plans) t = tt
  item_least feed before (Answered here said (reply.Range b)) t = tt

  items_least : (feed : ℕ) (before items : List LogItem) → AreTrueAnswers s history feed before items → All (λ x. IfSome (claim_in x) IsLeastThere) items
  items_least feed before [] t = All-nil (λ x. IfSome (claim_in x) IsLeastThere)
  items_least feed before (x ∷ items) t =
      All-cons (λ y. IfSome (claim_in y) IsLeastThere) x items (item_least feed before x t.0) (items_least feed (before ++ x ∷ []) items t.1)

  logs_least : (logs : List FeedLog) → AreTrueLogs s history logs → All (λ log. All (λ x. IfSome (claim_in x) IsLeastThere) log.items) logs
  logs_least logs t = λ k d low. items_least (k + 1) [] (get_or logs k d).items (t.each k (get_or logs k d) (slice_get-get_or logs k d low)).answers

-- no choices for a plan's entry cost less than a plan that a true run gives as optimal
pub optimal_is_least : (plans : ℕ) (start : RowsValue) (run : Run) → IsNetwork run.net → IsSized run.net start → IsTrueRun 2 plans start run → OptimalIsLeast start run
optimal_is_least plans start run network sized is = logs_least (setting_of 2 plans start run) network sized run.history run.logs is.logs

-- ---- words of version 2

knows_line : (said : Line) → KnowsLine 2 said
knows_line (line.Say m) = tt
knows_line (line.Time e) = tt
knows_line line.CostNow = tt
knows_line (line.Plan budget) = tt
knows_line (line.Solve budget) = refl
knows_line line.Adopt = tt
knows_line line.Carry = tt
knows_line line.Read = tt

knows_reply : (answer : Reply) → KnowsReply 2 answer
knows_reply (reply.Ok n) = tt
knows_reply (reply.Refused at) = tt
knows_reply (reply.Time n x) = tt
knows_reply (reply.Cost n x) = tt
knows_reply (reply.Read n) = tt
knows_reply (reply.Planned plan) = tt
knows_reply (reply.Solved plan) = refl
knows_reply (reply.Old n) = tt
knows_reply reply.NoPlan = tt
knows_reply reply.Plans = tt
knows_reply (reply.Range b) = tt

knows_item : (x : LogItem) → KnowsItem 2 x
knows_item (Malformed here) = tt
knows_item (Answered here said answer) = (knows_line said, knows_reply answer)

pub knows_logs : (logs : List FeedLog) → All (KnowsLog 2) logs
knows_logs logs = λ k d low. λ j e there. knows_item (get_or (get_or logs k d).items j e)
