-- An item that names an entry tells its feed and its line.
use Rattle.std.proofs.Common.{◌≡◌, ℕ, zero, suc, ◌+◌, ◌-◌, ◌<◌, ◌≤◌, Bool, true, false, cond, List, [], ◌∷◌, ◌++◌, length, slice_get, Option, Some, None, refl, sym, ap, ◌∙◌, subst, arith, length-append}
use Rattle.std.specs.Prelude.{count_by}
use Rattle.std.specs.Option.{IsSomeAnd}
use Rattle.std.proofs.lemmas.Bool.{eqb-true}
use Rattle.std.proofs.lemmas.List.Sums.{sum_by-append, sum_by-cons}
use Rattle.dm_rows.specs.declared.messages.Entry.{Entry}
use Rattle.dm_rows.specs.declared.messages.Message.{Message}
use Rattle.dm_feed.specs.declared.grammar.Line.{Line}
use Rattle.dm_feed.specs.declared.grammar.Line.TheVariants.{Say, Time as AskTime, CostNow as AskCost, Plan as AskPlan, Solve as AskSolve, Adopt as AskAdopt, Carry as AskCarry, Read as AskRead}
use Rattle.dm_tree.specs.declared.adopting.Chosen.{Chosen}
use Rattle.dm_cert.specs.declared.replies.Reply.{Reply}
use Rattle.dm_cert.specs.declared.replies.Reply.TheVariants as reply
use Rattle.dm_cert.specs.declared.replies.LogItem.{LogItem}
use Rattle.dm_cert.specs.declared.replies.LogItem.TheVariants.{Malformed, Answered}
use Rattle.dm_cert.specs.declared.replies.FeedLog.{FeedLog}
use Rattle.dm_cert.specs.Answers.{Setting, latest_plan, IsEntry, IsAdopted, carried, IsCarried, IsTrueReply, IsTrueAnswer}
use Rattle.dm_cert.specs.Logs.{kind_of, line_of, number_after, names, all_items, AreTrueAnswers, IsInOrder, IsTrueLog, AreTrueLogs}
use Rattle.dm_cert.proofs.Holding.{get_at}
use Rattle.dm_records.proofs.Each.{Each, each_of_splits}

-- the entry of this number came from this line of this feed
pub record CameFrom (history : List Entry) (feed line n : ℕ) : Type 0 where
  pub message : Message
  pub entry : IsEntry history n (record { feed = feed; line = line; message = message })

some_adopted : (history : List Entry) (feed line n : ℕ) (latest : Option Chosen) → IsSomeAnd latest (λ plan. IsAdopted history feed line n plan) → CameFrom history feed line n
some_adopted history feed line n None is = absurd is
some_adopted history feed line n (Some plan) is = record { message = _; entry = is.entry }

some_carried : (s : Setting) (history : List Entry) (feed line n : ℕ) (latest : Option Chosen) → IsSomeAnd latest (λ plan. IsCarried s history feed line n plan.choices) → CameFrom history feed line n
some_carried s history feed line n None is = absurd is
some_carried s history feed line n (Some plan) is = record { message = carried s history (n - 1) plan.choices; entry = is }

accepted_from : (s : Setting) (history : List Entry) (feed : ℕ) (before : List LogItem) (line : ℕ) (said : Line) (n : ℕ) → IsTrueReply s history feed before line said (reply.Ok n) → CameFrom history feed line n
accepted_from s history feed before line (Say message) n is = record { message = message; entry = is }
accepted_from s history feed before line (AskTime event) n is = absurd is
accepted_from s history feed before line AskCost n is = absurd is
accepted_from s history feed before line (AskPlan budget) n is = absurd is
accepted_from s history feed before line (AskSolve budget) n is = absurd is
accepted_from s history feed before line AskAdopt n is = some_adopted history feed line n (latest_plan before) is
accepted_from s history feed before line AskCarry n is = some_carried s history feed line n (latest_plan before) is
accepted_from s history feed before line AskRead n is = absurd is

no_name : {X : Type 0} → (◌≡◌ {A = Bool} false true) → X
no_name e = absurd cc

answer_named : (s : Setting) (history : List Entry) (feed : ℕ) (before : List LogItem) (line : ℕ) (said : Line) (r : Reply) (n : ℕ) → names n (Answered line said r) ≡ true →
    IsTrueReply s history feed before line said r → CameFrom history feed line n
answer_named s history feed before line said (reply.Ok m) n e is =
    subst (λ (k : ℕ). CameFrom history feed line k) (eqb-true m n e) (accepted_from s history feed before line said m is)
answer_named s history feed before line said (reply.Refused at) n e is = no_name e
answer_named s history feed before line said (reply.Time m t) n e is = no_name e
answer_named s history feed before line said (reply.Cost m c) n e is = no_name e
answer_named s history feed before line said (reply.Read m) n e is = no_name e
answer_named s history feed before line said (reply.Planned plan) n e is = no_name e
answer_named s history feed before line said (reply.Solved plan) n e is = no_name e
answer_named s history feed before line said (reply.Old m) n e is = no_name e
answer_named s history feed before line said reply.NoPlan n e is = no_name e
answer_named s history feed before line said reply.Plans n e is = no_name e
answer_named s history feed before line said (reply.Range b) n e is = no_name e

pub item_named : (s : Setting) (history : List Entry) (feed : ℕ) (before : List LogItem) (answered : LogItem) (n : ℕ) → names n answered ≡ true → IsTrueAnswer s history feed before answered →
    CameFrom history feed (line_of answered) n
item_named s history feed before (Malformed line) n e is = no_name e
item_named s history feed before (Answered line said r) n e is = answer_named s history feed before line said r n e is

-- ---- an entry that some item names

-- it came from a line above this one
pub record CameLater (history : List Entry) (feed last n : ℕ) : Type 0 where
  pub line : ℕ
  pub later : last < line
  pub from : CameFrom history feed line n

came_later : (history : List Entry) (feed last line n : ℕ) → last < line → CameLater history feed line n → CameLater history feed last n
came_later history feed last line n low came = record { line = came.line; later = (let more = came.later in omega arith); from = came.from }

module _ (s : Setting) (history : List Entry) (n : ℕ) where
  -- this item names it, or one behind it does
  named_first : (feed : ℕ) (before : List LogItem) (x : LogItem) (last others : ℕ) (b : Bool) → names n x ≡ b → IsTrueAnswer s history feed before x → last < line_of x →
      (1 ≤ others → CameLater history feed (line_of x) n) → 1 ≤ cond b 1 0 + others → CameLater history feed last n
  named_first feed before x last others true named is low rest some =
      record { line = line_of x; later = low; from = item_named s history feed before x n named is }
  named_first feed before x last others false named is low rest some = came_later history feed last (line_of x) n low (rest (omega (arith, some)))

  named_in : (feed : ℕ) (before items : List LogItem) (last number : ℕ) → AreTrueAnswers s history feed before items → IsInOrder last number items → 1 ≤ count_by (names n) items →
      CameLater history feed last n
  named_in feed before [] last number answers order some = absurd (omega arith)
  named_in feed before (x ∷ items) last number answers order some =
      let sum : count_by (names n) (x ∷ items) ≡ cond (names n x) 1 0 + count_by (names n) items = sum_by-cons (λ (a : LogItem). cond (names n a) 1 0) x items in
      named_first feed before x last (count_by (names n) items) (names n x) refl answers.0 order.0
      (λ more. named_in feed (before ++ x ∷ []) items (line_of x) (number_after number (kind_of x)) answers.1 order.2 more) (omega (arith, some, sum))

-- it came from some line of one of so many feeds
pub record CameSomehow (history : List Entry) (feeds n : ℕ) : Type 0 where
  pub feed : ℕ
  pub few : feed ≤ feeds
  pub line : ℕ
  pub some_line : 1 ≤ line
  pub from : CameFrom history feed line n

-- the log stands behind these and is true
abbrev pub IsTrueBehind : Setting → List Entry → List FeedLog → FeedLog → Type 0
IsTrueBehind s history before log = IsTrueLog s history (length before) log.items

module _ (s : Setting) (history : List Entry) (n : ℕ) where
  -- an item of this log names it, or one of a later log does
  in_this_or_later : (before : List FeedLog) (log : FeedLog) (feeds count others : ℕ) → count_by (names n) log.items ≡ count → IsTrueBehind s history before log → length before + 1 ≤ feeds →
      (1 ≤ others → CameSomehow history feeds n) → 1 ≤ count + others → CameSomehow history feeds n
  in_this_or_later before log feeds zero others count is few rest some = rest (omega (arith, some))
  in_this_or_later before log feeds (suc count) others is_count is few rest some =
      let came = named_in s history n (length before + 1) [] log.items 0 0 is.answers is.in_order (omega (arith, is_count)) in
      record { feed = length before + 1; few = few; line = came.line; some_line = (let low = came.later in omega (arith, low)); from = came.from }

  pub named_somewhere : (before logs : List FeedLog) → Each (IsTrueBehind s history) before logs → 1 ≤ count_by (names n) (all_items logs) → CameSomehow history (length before + length logs) n
  named_somewhere before [] each some = absurd (omega arith)
  named_somewhere before (log ∷ logs) each some =
      let sum : count_by (names n) (all_items (log ∷ logs)) ≡ count_by (names n) log.items + count_by (names n) (all_items logs) =
      sum_by-append (λ (x : LogItem). cond (names n x) 1 0) log.items (all_items logs) in
      let feeds : length (before ++ log ∷ []) + length logs ≡ length before + length (log ∷ logs) =
      (let more = length-append before (log ∷ []) in omega (arith, more)) in
      in_this_or_later before log (length before + length (log ∷ logs)) (count_by (names n) log.items) (count_by (names n) (all_items logs)) refl each.0 (omega arith)
      (λ more. subst (λ (k : ℕ). CameSomehow history k n) feeds (named_somewhere (before ++ log ∷ []) logs each.1 more)) (omega (arith, some, sum))

-- ---- true logs of a history

pub logs_behind : (s : Setting) (history : List Entry) (logs : List FeedLog) → AreTrueLogs s history logs → Each (IsTrueBehind s history) [] logs
logs_behind s history logs are =
    each_of_splits (IsTrueBehind s history) logs
    (λ before log later e. are.each (length before) log (ap (λ ls. slice_get ls (length before)) e ∙ get_at before log later)) [] logs refl

pub same_entry : (history : List Entry) (before : List Entry) (entry : Entry) (later : List Entry) (other : Entry) → history ≡ before ++ entry ∷ later → IsEntry history (length before + 1) other → other ≡ entry
same_entry history before entry later other e is =
    let place : (length before + 1) - 1 ≡ length before = omega arith in
    let there : slice_get history (length before) ≡ Some other = subst (λ (k : ℕ). slice_get history k ≡ Some other) place is.1 in
    let here : slice_get history (length before) ≡ Some entry = ap (λ es. slice_get es (length before)) e ∙ get_at before entry later in
    let both : Some other ≡ Some entry = sym there ∙ here in
    cc
