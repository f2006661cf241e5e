-- In the entries of a history that has true logs, of a pair to lock or unlock the smaller id stands first.
use Rattle.std.proofs.Common.{◌≡◌, ℕ, ◌+◌, ◌-◌, ◌<◌, List, [], ◌∷◌, ◌++◌, get_or, Option, Some, None, All, sym, ap, subst, ◌∙◌, arith, inl, inr, slice_get}
use Rattle.std.specs.Prelude.{count_by}
use Rattle.std.specs.Option.{IsSomeAnd}
use Rattle.std.proofs.lemmas.Bool.{cases_lt}
use Rattle.std.proofs.lemmas.List.Elements.{All-head, All-tail}
use Rattle.std.proofs.lemmas.Option.{slice_get_within, slice_get-get_or, get_or_from_slice_get}
use Rattle.dm_rows.specs.declared.messages.Entry.{Entry}
use Rattle.dm_rows.specs.declared.messages.Message.{Message}
use Rattle.dm_rows.specs.declared.messages.Message.TheVariants.{DelayEvent, DelayActivity, Pass, Recall, Keep, Drop, First, Adopt as AdoptAll, Now, Cancel, Restore, Lock, Unlock}
use Rattle.dm_feed.specs.declared.grammar.Line.{Line}
use Rattle.dm_feed.specs.declared.grammar.Line.TheVariants.{Say, Time as AskTime, CostNow as AskCost, Plan as AskPlan, Solve as AskSolve, Adopt as AskAdopt, Carry as AskCarry, Read as AskRead}
use Rattle.dm_feed.specs.Lines.{HasSortedChoice, IsSaid, IsSpelledLine}
use Rattle.dm_tree.specs.declared.adopting.Chosen.{Chosen}
use Rattle.dm_cert.specs.declared.replies.Reply.{Reply}
use Rattle.dm_cert.specs.declared.replies.Reply.TheVariants.{Ok}
use Rattle.dm_cert.specs.declared.replies.LogItem.{LogItem}
use Rattle.dm_cert.specs.declared.replies.LogItem.TheVariants.{Malformed, Answered}
use Rattle.dm_cert.specs.Answers.{Setting, latest_plan, IsAdopted, carried, IsCarried, IsTrueReply, IsTrueAnswer}
use Rattle.dm_cert.specs.Logs.{entered, kind_of, names, AreTrueAnswers}
use Rattle.dm_cert.specs.RunTexts.{IsSpelledItem, IsSpelledLog}
use Rattle.dm_cert.specs.Laws.{TrueLogsHaveSortedEntries}
use Rattle.dm_cert.proofs.Numbers.{one_name, count-cons, named_is}
use Rattle.dm_cert.proofs.Holding.{ok_of}
use Rattle.dm_cert.proofs.ListsOfLogs.{items_of, names_of_all, HasPart, has_part}
use Rattle.dm_cert.proofs.OneDispatcher.{log_at}

-- a message that a line says has its smaller id first
said_is_sorted : (m : Message) → IsSaid m → HasSortedChoice m
said_is_sorted (DelayEvent e d) said = tt
said_is_sorted (DelayActivity a d) said = tt
said_is_sorted (Pass e t) said = tt
said_is_sorted (Recall e) said = tt
said_is_sorted (Keep a) said = tt
said_is_sorted (Drop a) said = tt
said_is_sorted (First i j) said = tt
said_is_sorted (AdoptAll ds) said = tt
said_is_sorted (Now t) said = tt
said_is_sorted (Cancel e) said = tt
said_is_sorted (Restore e) said = tt
said_is_sorted (Lock c) said = said
said_is_sorted (Unlock c) said = said

module _ (s : Setting) (h : List Entry) (feed n : ℕ) (e : Entry) (at : slice_get h (n - 1) ≡ Some e) where
  -- the entry is the one that stands there
  entry_is : (line : ℕ) (m : Message) → slice_get h (n - 1) ≡ Some (record { feed = feed; line = line; message = m }) → HasSortedChoice m → HasSortedChoice e.message
  entry_is line m there sorted =
      let same : Some (record { feed = feed; line = line; message = m }) ≡ Some e = sym there ∙ at in
      subst (λ (x : Entry). HasSortedChoice x.message) (one_some (record { feed = feed; line = line; message = m }) e same) sorted
    where
      one_some : (a b : Entry) → Some a ≡ Some b → a ≡ b
      one_some a b same = cc

  reply_sorted : (before : List LogItem) (line : ℕ) (said : Line) → IsSpelledLine said → IsTrueReply s h feed before line said (Ok n) → HasSortedChoice e.message
  reply_sorted before line (Say m) spelled t = entry_is line m t.1 (said_is_sorted m spelled)
  reply_sorted before line AskAdopt spelled t = adopted (latest_plan before) t
    where
      adopted : (latest : Option Chosen) → IsSomeAnd latest (λ plan. IsAdopted h feed line n plan) → HasSortedChoice e.message
      adopted None t = absurd t
      adopted (Some plan) t = entry_is line (AdoptAll plan.choices) t.entry.1 tt
  reply_sorted before line AskCarry spelled t = carrying (latest_plan before) t
    where
      carrying : (latest : Option Chosen) → IsSomeAnd latest (λ plan. IsCarried s h feed line n plan.choices) → HasSortedChoice e.message
      carrying None t = absurd t
      carrying (Some plan) t = entry_is line (carried s h (n - 1) plan.choices) t.1 tt
  reply_sorted before line (AskTime event) spelled t = absurd t
  reply_sorted before line AskCost spelled t = absurd t
  reply_sorted before line (AskPlan budget) spelled t = absurd t
  reply_sorted before line (AskSolve budget) spelled t = absurd t
  reply_sorted before line AskRead spelled t = absurd t

  item_sorted : (before : List LogItem) (x : LogItem) → IsSpelledItem x → IsTrueAnswer s h feed before x → kind_of x ≡ entered n → HasSortedChoice e.message
  item_sorted before (Malformed line) spelled t kind = absurd (cc)
  item_sorted before (Answered line said reply) spelled t kind =
      reply_sorted before line said spelled.0 (subst (λ (r : Reply). IsTrueReply s h feed before line said r) (ok_of reply n kind) t)

  -- the entry is named by some item, which says what it is
  items_sorted : (before items : List LogItem) → All IsSpelledItem items → AreTrueAnswers s h feed before items → 0 < count_by (names n) items → HasSortedChoice e.message
  items_sorted before [] spelled t lt = absurd (omega arith)
  items_sorted before (x ∷ items) spelled t lt =
      elim (cases_lt 0 (one_name n (kind_of x))) [
        | inl here ↦ item_sorted before x (All-head IsSpelledItem x items spelled) t.0 (named_is n (kind_of x) here)
        | inr none ↦
            let count = count-cons n x items in
            items_sorted (before ++ x ∷ []) items (All-tail IsSpelledItem x items spelled) t.1 (omega arith)
      ]

pub true_logs_have_sorted_entries : TrueLogsHaveSortedEntries
true_logs_have_sorted_entries s history logs true_logs spelled k d low =
    let n : ℕ = k + 1 in
    let here : n - 1 ≡ k = omega arith in
    let at : slice_get history (n - 1) ≡ Some (get_or history k d) = ap (slice_get history) here ∙ slice_get-get_or history k d low in
    let one = true_logs.once n (omega arith) (omega arith) in
    let all = names_of_all n logs in
    let owner : HasPart (λ items. count_by (names n) items) (items_of logs) = has_part (λ items. count_by (names n) items) (items_of logs) (omega arith) in
    let l = log_at logs owner.place owner.part owner.stands in
    let of_log : All IsSpelledItem l.log.items =
    subst IsSpelledLog (get_or_from_slice_get logs owner.place l.log l.log l.stands) (spelled owner.place l.log (slice_get_within logs owner.place l.log l.stands)) in
    let some : 0 < count_by (names n) l.log.items = subst (λ (items : List LogItem). 0 < count_by (names n) items) (sym l.is) owner.some in
    items_sorted s history (owner.place + 1) n (get_or history k d) at [] l.log.items of_log (true_logs.each owner.place l.log l.stands).answers some
