-- What the answer to one line does.
use Rattle.std.specs.Borrow.{Bor}
use Rattle.std.specs.Prelude.{ℕ, ◌≡◌, ◌+◌, ◌≤◌, ◌∷◌, [], List, length, count_by, Option, None, IfSome}
use Rattle.dm_feed.specs.declared.grammar.Heard.{Heard}
use Rattle.dm_feed.specs.declared.grammar.Heard.TheVariants.{Blank, Line as Spoken, Malformed as Unheard}
use Rattle.dm_feed.specs.declared.grammar.Line.{Line}
use Rattle.dm_feed.specs.declared.grammar.Line.TheVariants.{Plan as AskPlan, Solve as AskSolve}
use Rattle.dm_feed.specs.DueItems.{item}
use Rattle.dm_feed.specs.Lines.{IsSpelledLine}
use Rattle.dm_rows.specs.declared.messages.Decision.{Decision}
use Rattle.dm_rows.specs.declared.rows.Snapshot.{Snapshot}
use Rattle.dm_tree.specs.declared.adopting.Chosen.{Chosen}
use Rattle.dm_tree.specs.Plans.{chosen}
use Rattle.dm_parts.specs.declared.kinds.AnyPlan.{AnyPlan}
use Rattle.dm_cert.specs.declared.replies.LogItem.{LogItem}
use Rattle.dm_cert.specs.declared.replies.Reply.{Reply}
use Rattle.dm_cert.specs.Answers.{is_plan, plan_after, latest_plan, IsTrueReply, IsTrueAnswer}
use Rattle.dm_cert.specs.Logs.{kind_of, kind_of_reply, is_entered, names, due_of}
use Rattle.dm_cert.specs.RunTexts.{IsSpelledReply, IsSpelledItem}
use Rattle.dm_desk.specs.Desks.{DeskValue, GoesOn, IsCopied, IsAdoptable}
use Rattle.dm_desk.specs.declared.searches.Search.{Search}
use Rattle.dm_desk.specs.declared.searches.Search.TheVariants.{Plan as ForPlan, Solve as ForParts}
use Rattle.dm_desk.specs.Planning.{FindsFor}
use Rattle.dm_desk.specs.Answered.{IsBetween, times}

-- a due line, whose messages are no adopted list
abbrev pub IsDueHeard : Heard → Type 0
IsDueHeard Blank = ⊥
IsDueHeard (Spoken said) = IsSpelledLine said
IsDueHeard Unheard = Unit {0}

-- the reply is true of what is seen now, where these are the feed's items before
pub record Replies (before now : DeskValue) (feed line : ℕ) (items : List LogItem) (said : Line) (reply : Reply) : Type 0 where
  pub goes_on : GoesOn before now
  pub is_true : IsTrueReply now.setting now.seen feed items line said reply
  pub between : IsBetween (length before.seen) (length now.seen) (kind_of_reply reply)
  pub spelled : IsSpelledReply reply
  pub named : (n : ℕ) → count_by (is_entered n) (kind_of_reply reply ∷ []) + times n before.mine ≡ times n now.mine

-- the item answers the line, and is true where these are the feed's items before
pub record AnswersLine (before now : DeskValue) (feed line : ℕ) (items : List LogItem) (heard : Heard) (answered : LogItem) : Type 0 where
  pub due : due_of answered ≡ item line heard
  pub goes_on : GoesOn before now
  pub is_true : IsTrueAnswer now.setting now.seen feed items answered
  pub between : IsBetween (length before.seen) (length now.seen) (kind_of answered)
  pub spelled : IsSpelledItem answered
  pub named : (n : ℕ) → count_by (names n) (answered ∷ []) + times n before.mine ≡ times n now.mine

-- ---- plans

-- what an adoption takes of the plan that an item is
abbrev pub plan_in : LogItem → Option Chosen
plan_in answered = plan_after None answered

-- an entry and choices that are lent
abbrev pub lent : ℕ × Bor (List Decision) → Chosen
lent p = chosen p.0 p.1.now

-- the plans of a feed are as many as it may have at most, and the latest may be adopted for what is seen
pub record HasPlans (desk : DeskValue) (items : List LogItem) : Type 0 where
  pub few : count_by is_plan items ≤ desk.setting.plans
  pub latest : IfSome (latest_plan items) (IsAdoptable desk)

-- the line that asks for it
abbrev pub asks : Search → Line
asks (ForPlan budget) = AskPlan budget
asks (ForParts budget) = AskSolve budget

-- rows equal to those after all that is seen now were copied, and this plan was found for them
pub record IsFoundFor (before now : DeskValue) (search : Search) (plan : AnyPlan) : Type 0 where
  pub snapshot : Snapshot
  pub copied : IsCopied before now snapshot
  pub finds : FindsFor now.setting.net now.setting.penalty snapshot search plan
