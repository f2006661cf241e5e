-- When the answer to a line of a feed is true.
use Rattle.std.specs.Prelude.{ℕ, ◌≡◌, ◌==◌, ◌+◌, ◌-◌, ◌<◌, ◌≤◌, ◌⊎◌, Bool, true, false, if◌then◌else◌, List, length, slice_get, fold, count_by, Option, Some, None}
use Rattle.std.specs.Option.{IsSomeAnd}
use Rattle.dm_base.specs.declared.ids.EventId.{EventId}
use Rattle.dm_base.specs.declared.limits.TheConstants.{BUDGET, ENTRIES}
use Rattle.dm_network.specs.Net.{Net, event_place}
use Rattle.dm_rows.specs.declared.messages.Entry.{Entry}
use Rattle.dm_rows.specs.declared.messages.Message.{Message}
use Rattle.dm_rows.specs.declared.messages.Message.TheVariants.{Adopt as AdoptAll}
use Rattle.dm_rows.specs.declared.messages.Refusal.{Refusal}
use Rattle.dm_rows.specs.declared.messages.Refusal.TheVariants.{UnknownEvent, Full}
use Rattle.dm_rows.specs.Rows.{RowsValue}
use Rattle.dm_rows.specs.Timetable.{time_at, IsLeast}
use Rattle.dm_rows.specs.Cost.{Costs}
use Rattle.dm_rows.specs.Refuse.{Refuses}
use Rattle.dm_rows.specs.declared.messages.Decision.{Decision}
use Rattle.dm_rows.specs.Carry.{free_among}
use Rattle.dm_rows.specs.History.{rows_at}
use Rattle.dm_feed.specs.declared.grammar.Line.{Line}
use Rattle.dm_feed.specs.declared.grammar.Line.TheVariants.{Say, Time as AskTime, CostNow as AskCost, Plan as AskPlan, Solve as AskSolve, Adopt as AskAdopt, Carry as AskCarry, Read as AskRead}
use Rattle.dm_tree.specs.declared.plans.Plan.{Plan}
use Rattle.dm_tree.specs.declared.adopting.Chosen.{Chosen}
use Rattle.dm_tree.specs.Plans.{whole_task, IsTruePlan}
use Rattle.dm_parts.specs.declared.parts.PlanByParts.{PlanByParts}
use Rattle.dm_parts.specs.Parts.{IsTruePlanByParts}
use Rattle.dm_parts.specs.declared.kinds.AnyPlan.{AnyPlan}
use Rattle.dm_parts.specs.declared.kinds.AnyPlan.TheVariants.{Whole, ByParts}
use Rattle.dm_cert.specs.declared.replies.Reply.{Reply}
use Rattle.dm_cert.specs.declared.replies.Reply.TheVariants.{Ok, Refused, Time, Cost, Read, Planned, Solved, Old, NoPlan, Plans, Range}
use Rattle.dm_cert.specs.declared.replies.LogItem.{LogItem}
use Rattle.dm_cert.specs.declared.replies.LogItem.TheVariants.{Malformed, Answered}

-- the most nodes that a plan's tree may be asked to have, in a text of this version, which is 1 or 2
abbrev pub plan_limit : ℕ → ℕ
plan_limit version = if version == 1 then 4096 else BUDGET

-- what answers go by besides the entries: the network, the rows at the start, the penalty, how many plans a feed may have, and
-- the version of the text
pub record Setting : Type 0 where
  pub net : Net
  pub start : RowsValue
  pub penalty : ℕ
  pub plans : ℕ
  pub version : ℕ

-- the rows after the first n entries
abbrev pub rows_after : Setting → List Entry → ℕ → RowsValue
rows_after s history n = rows_at s.net s.start history n

-- the entry of this number, from 1, is this one
abbrev pub IsEntry : List Entry → ℕ → Entry → Type 0
IsEntry history n entry = (0 < n) × (slice_get history (n - 1) ≡ Some entry)

-- ---- the plans that a feed has had, of either kind

abbrev pub is_plan_reply : Reply → Bool
is_plan_reply (Planned plan) = true
is_plan_reply (Solved plan) = true
is_plan_reply _ = false

-- the item is a plan, or a plan by parts
abbrev pub is_plan : LogItem → Bool
is_plan (Malformed line) = false
is_plan (Answered line said reply) = is_plan_reply reply

-- the reply that gives a plan
abbrev pub reply_with : AnyPlan → Reply
reply_with (Whole plan) = Planned plan
reply_with (ByParts plan) = Solved plan

-- the latest plan, where this one was the latest before the reply, before the item
abbrev pub plan_after_reply : Option Chosen → Reply → Option Chosen
plan_after_reply latest (Planned plan) = Some (record { entry = plan.entry; choices = plan.choices })
plan_after_reply latest (Solved plan) = Some (record { entry = plan.entry; choices = plan.choices })
plan_after_reply latest _ = latest

abbrev pub plan_after : Option Chosen → LogItem → Option Chosen
plan_after latest (Malformed line) = latest
plan_after latest (Answered line said reply) = plan_after_reply latest reply

-- the last plan of either kind among the items, or None where there is none
abbrev pub latest_plan : List LogItem → Option Chosen
latest_plan before = fold plan_after None before

-- a plan of either kind may be asked to have so many nodes
abbrev pub IsBudget : Setting → ℕ → Type 0
IsBudget s budget = (1 ≤ budget) × (budget ≤ plan_limit s.version)

-- a plan may not
abbrev pub IsOutOfRange : Setting → ℕ → Type 0
IsOutOfRange s budget = (budget ≡ 0) ⊎ (plan_limit s.version < budget)

-- ---- what each answer needs

-- the rows after the first n entries refuse the message for this
pub record IsRefused (s : Setting) (history : List Entry) (n : ℕ) (message : Message) (why : Refusal) : Type 0 where
  pub within : n ≤ length history
  pub refuses : Refuses s.net (rows_after s history n) n message why

-- this is the event's time in the least timetable after the first n entries
pub record IsTimeAt (s : Setting) (history : List Entry) (n : ℕ) (event : EventId) (time : ℕ) : Type 0 where
  pub within : n ≤ length history
  pub place : ℕ
  pub known : event_place s.net event ≡ Some place
  pub times : List ℕ
  pub least : IsLeast s.net (rows_after s history n) times
  pub is_time : time ≡ time_at times place

-- the network has no such event
pub record IsUnknownAt (s : Setting) (history : List Entry) (n : ℕ) (event : EventId) (why : Refusal) : Type 0 where
  pub within : n ≤ length history
  pub unknown : event_place s.net event ≡ None
  pub is_why : why ≡ UnknownEvent event

-- this is the cost after the first n entries
pub record IsCostAt (s : Setting) (history : List Entry) (n cost : ℕ) : Type 0 where
  pub within : n ≤ length history
  pub costs : Costs s.net (rows_after s history n) s.penalty cost

-- a true plan of the rows at its entry, of so many nodes at most, for a feed that has had fewer plans than it may have
pub record IsPlanFor (s : Setting) (history : List Entry) (before : List LogItem) (budget : ℕ) (plan : Plan) : Type 0 where
  pub within : plan.entry ≤ length history
  pub in_range : IsBudget s budget
  pub fewer : count_by is_plan before < s.plans
  pub is_true : IsTruePlan (whole_task s.net (rows_after s history plan.entry) s.penalty budget) plan

-- a true plan by parts of the rows at its entry, of so many nodes at most, for a feed that has had fewer plans than it may have
pub record IsSolvedFor (s : Setting) (history : List Entry) (before : List LogItem) (budget : ℕ) (plan : PlanByParts) :
    Type 0 where
  pub within : plan.entry ≤ length history
  pub in_range : IsBudget s budget
  pub fewer : count_by is_plan before < s.plans
  pub is_true : IsTruePlanByParts (whole_task s.net (rows_after s history plan.entry) s.penalty budget) plan

-- the feed has had all its plans
pub record HasAllPlans (s : Setting) (before : List LogItem) (budget : ℕ) : Type 0 where
  pub in_range : IsBudget s budget
  pub all : count_by is_plan before ≡ s.plans

-- the plan's choices are entered behind the entries that it is for
pub record IsAdopted (history : List Entry) (feed line n : ℕ) (plan : Chosen) : Type 0 where
  pub next : n ≡ plan.entry + 1
  pub entry : IsEntry history n (record { feed = feed; line = line; message = AdoptAll plan.choices })

-- the history has more entries than the plan is for
pub record IsOld (history : List Entry) (n : ℕ) (plan : Chosen) : Type 0 where
  pub within : n ≤ length history
  pub older : plan.entry < n

-- the plan is for the rows of a full history
pub record HasNoRoom (history : List Entry) (n : ℕ) (why : Refusal) (plan : Chosen) : Type 0 where
  pub within : n ≤ length history
  pub full : n ≡ ENTRIES
  pub present : n ≡ plan.entry
  pub is_why : why ≡ Full ENTRIES

-- what choices come to after the first n entries: an adoption of those that are free there
abbrev pub carried : Setting → List Entry → ℕ → List Decision → Message
carried s history n choices = AdoptAll (free_among s.net (rows_after s history n) choices)

-- the choices that are free after the entries before are entered behind them
abbrev pub IsCarried : Setting → List Entry → ℕ → ℕ → ℕ → List Decision → Type 0
IsCarried s history feed line n choices =
    IsEntry history n (record { feed = feed; line = line; message = carried s history (n - 1) choices })

-- ---- true answers

-- The reply to a line of a feed is true, where these are the feed's items before: a clause for each pair of line and reply
-- that may be, and every other is false.
abbrev pub IsTrueReply : Setting → List Entry → ℕ → List LogItem → ℕ → Line → Reply → Type 0
IsTrueReply s history feed before line (Say message) (Ok n) =
    IsEntry history n (record { feed = feed; line = line; message = message })
IsTrueReply s history feed before line (Say message) (Refused at) = IsRefused s history at.entry message at.why
IsTrueReply s history feed before line (AskTime event) (Time n time) = IsTimeAt s history n event time
IsTrueReply s history feed before line (AskTime event) (Refused at) = IsUnknownAt s history at.entry event at.why
IsTrueReply s history feed before line AskCost (Cost n cost) = IsCostAt s history n cost
IsTrueReply s history feed before line AskRead (Read n) = n ≤ length history
IsTrueReply s history feed before line (AskPlan budget) (Range v) = IsOutOfRange s budget × (v ≡ budget)
IsTrueReply s history feed before line (AskPlan budget) Plans = HasAllPlans s before budget
IsTrueReply s history feed before line (AskPlan budget) (Planned plan) = IsPlanFor s history before budget plan
IsTrueReply s history feed before line (AskSolve budget) (Range v) = IsOutOfRange s budget × (v ≡ budget)
IsTrueReply s history feed before line (AskSolve budget) Plans = HasAllPlans s before budget
IsTrueReply s history feed before line (AskSolve budget) (Solved plan) = IsSolvedFor s history before budget plan
IsTrueReply s history feed before line AskAdopt NoPlan = latest_plan before ≡ None
IsTrueReply s history feed before line AskAdopt (Ok n) =
    IsSomeAnd (latest_plan before) (λ plan. IsAdopted history feed line n plan)
IsTrueReply s history feed before line AskAdopt (Old n) = IsSomeAnd (latest_plan before) (λ plan. IsOld history n plan)
IsTrueReply s history feed before line AskAdopt (Refused at) =
    IsSomeAnd (latest_plan before) (λ plan. HasNoRoom history at.entry at.why plan)
IsTrueReply s history feed before line AskCarry NoPlan = latest_plan before ≡ None
IsTrueReply s history feed before line AskCarry (Ok n) =
    IsSomeAnd (latest_plan before) (λ plan. IsCarried s history feed line n plan.choices)
IsTrueReply s history feed before line AskCarry (Refused at) =
    IsSomeAnd (latest_plan before) (λ plan. IsRefused s history at.entry (carried s history at.entry plan.choices) at.why)
IsTrueReply s history feed before line _ _ = ⊥

-- one item of a feed's log is true, where these are the feed's items before
abbrev pub IsTrueAnswer : Setting → List Entry → ℕ → List LogItem → LogItem → Type 0
IsTrueAnswer s history feed before (Malformed line) = Unit {0}
IsTrueAnswer s history feed before (Answered line said reply) = IsTrueReply s history feed before line said reply
