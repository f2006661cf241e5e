-- From a schedule to true logs: each step of one dispatcher keeps what holds.
use Rattle.std.proofs.Common.{◌≡◌, ℕ, ◌+◌, ◌-◌, ◌<◌, ◌≤◌, ◌⊎◌, List, [], ◌∷◌, ◌++◌, length, map, set, Option, Some, None, refl, sym, ap, subst, ◌∙◌, arith, inl, inr, slice_get, fold}
use Rattle.std.specs.Prelude.{count_by, All}
use Rattle.std.specs.Option.{IsSomeAnd}
use Rattle.std.proofs.lemmas.Bool.{cases_eq, cases_lt}
use Rattle.std.proofs.lemmas.List.{length-append, length-set, length-map}
use Rattle.std.proofs.lemmas.Option.{slice_get_within, get_or_from_slice_get}
use Rattle.dm_base.specs.declared.limits.TheConstants.{ENTRIES}
use Rattle.dm_network.specs.Net.{Net}
use Rattle.dm_network.specs.Held.{ids_of}
use Rattle.dm_network.specs.Start.{IsNetwork}
use Rattle.dm_rows.specs.declared.messages.Decision.{Decision}
use Rattle.dm_rows.specs.declared.messages.Decision.TheVariants.{Keep as KeepIt, Drop as DropIt, First as FirstOf}
use Rattle.dm_rows.specs.declared.messages.Entry.{Entry}
use Rattle.dm_rows.specs.declared.messages.Message.{Message}
use Rattle.dm_rows.specs.declared.messages.Choice.TheVariants as choice
use Rattle.dm_rows.specs.declared.messages.Message.TheVariants.{DelayEvent, DelayActivity, Pass, Recall, Keep, Drop, First, Adopt as AdoptAll, Now, Cancel, Restore, Lock, Unlock}
use Rattle.dm_rows.specs.declared.messages.Refusal.{Refusal}
use Rattle.dm_rows.specs.declared.messages.Refusal.TheVariants.{Cycle, Full, OutOfMemory}
use Rattle.dm_rows.specs.Rows.{RowsValue}
use Rattle.dm_rows.specs.Active.{HasNoCycle}
use Rattle.dm_rows.specs.Resolve.{after}
use Rattle.dm_rows.specs.Refuse.{IsNow, RefusesDecision, RefusesAtOnce, PassesAtOnce, RefusesNothing, Refuses}
use Rattle.dm_rows.specs.History.{IsLegal}
use Rattle.dm_feed.specs.declared.grammar.Line.{Line}
use Rattle.dm_feed.specs.declared.grammar.Line.TheVariants.{Say, Time as AskTime, CostNow as AskCost, Plan as AskPlan, Solve as AskSolve, Adopt as AskAdopt, Carry as AskCarry, Read as AskRead}
use Rattle.dm_feed.specs.DueItems.{DueItem}
use Rattle.dm_tree.specs.declared.plans.Plan.{Plan}
use Rattle.dm_tree.specs.declared.adopting.Chosen.{Chosen}
use Rattle.dm_tree.specs.Plans.{MayBeAdopted}
use Rattle.dm_parts.specs.declared.parts.PlanByParts.{PlanByParts}
use Rattle.dm_cert.specs.declared.replies.Reply.{Reply}
use Rattle.dm_cert.specs.declared.replies.Reply.TheVariants.{Ok, Refused, Time, Cost, Read, Planned, Solved, Old, NoPlan, Plans, Range}
use Rattle.dm_cert.specs.declared.replies.LogItem.{LogItem}
use Rattle.dm_cert.specs.declared.replies.LogItem.TheVariants.{Malformed, Answered}
use Rattle.dm_cert.specs.Answers.{Setting, rows_after, IsEntry, plan_after, plan_after_reply, latest_plan, IsAdopted, carried, IsCarried, IsTrueReply, IsTrueAnswer}
use Rattle.dm_cert.specs.Logs.{Kind, free, told, entered, kind_of, line_of, due_of, Follows, names, AreTrueAnswers, IsTrueLog}
use Rattle.dm_cert.specs.CoreRun.{LinesRise, AnswerFirst, IsPresent, IsToEnter, IsItemToEnter, EntersNext, AnswersNow, CoreState, CoreStep, CoreRun, nothing_yet, IsReached}
use Rattle.dm_tree.proofs.Admitted.{free_choices_are_admitted}
use Rattle.dm_cert.proofs.Numbers.{last_number, one_name, count_push, names_itself, names_no_other, unnamed_above}
use Rattle.dm_cert.proofs.TrueLogs.{alike_shorter, carried_alike, answers_grow, numbers_within, log_grows, log_push}
use Rattle.dm_cert.proofs.ListsOfLogs.{get_set_same, get_set_other, sum_set, HasPart, has_part, total_names, empty_at}
use Rattle.dm_cert.proofs.Holding.{Holds, get_at, first_push, next_rises, legal_push, ok_of}

-- ---- that nothing refuses a message says that there is room

now_or_not : (m : Message) → IsNow m ⊎ (IsNow m → ⊥)
now_or_not (DelayEvent e d) = inr (λ h. h)
now_or_not (DelayActivity a d) = inr (λ h. h)
now_or_not (Pass e t) = inr (λ h. h)
now_or_not (Recall e) = inr (λ h. h)
now_or_not (Keep a) = inr (λ h. h)
now_or_not (Drop a) = inr (λ h. h)
now_or_not (First i j) = inr (λ h. h)
now_or_not (AdoptAll ds) = inr (λ h. h)
now_or_not (Now t) = inl tt
now_or_not (Cancel e) = inr (λ h. h)
now_or_not (Restore e) = inr (λ h. h)
now_or_not (Lock c) = inr (λ h. h)
now_or_not (Unlock c) = inr (λ h. h)

-- no decision, and so no message, is refused at once for a cycle, a full history or want of memory
no_cycle_in : (net : Net) (rows : RowsValue) (d : Decision) (ids : List _) → RefusesDecision net rows d (Cycle ids) → ⊥
no_cycle_in net rows (KeepIt a) ids h = h
no_cycle_in net rows (DropIt a) ids h = h
no_cycle_in net rows (FirstOf i j) ids h = h

no_full_in : (net : Net) (rows : RowsValue) (d : Decision) (k : ℕ) → RefusesDecision net rows d (Full k) → ⊥
no_full_in net rows (KeepIt a) k h = h
no_full_in net rows (DropIt a) k h = h
no_full_in net rows (FirstOf i j) k h = h

no_memory_in : (net : Net) (rows : RowsValue) (d : Decision) → RefusesDecision net rows d OutOfMemory → ⊥
no_memory_in net rows (KeepIt a) h = h
no_memory_in net rows (DropIt a) h = h
no_memory_in net rows (FirstOf i j) h = h

no_cycle_at_once : (net : Net) (rows : RowsValue) (m : Message) (ids : List _) → RefusesAtOnce net rows m (Cycle ids) → ⊥
no_cycle_at_once net rows (DelayEvent e d) ids h = h
no_cycle_at_once net rows (DelayActivity a d) ids h = h
no_cycle_at_once net rows (Pass e t) ids h = h
no_cycle_at_once net rows (Recall e) ids h = h
no_cycle_at_once net rows (Keep a) ids h = h
no_cycle_at_once net rows (Drop a) ids h = h
no_cycle_at_once net rows (First i j) ids h = h
no_cycle_at_once net rows (AdoptAll ds) ids h = no_cycle_in net rows h.decision ids h.refused
no_cycle_at_once net rows (Now t) ids h = h
no_cycle_at_once net rows (Cancel e) ids h = h
no_cycle_at_once net rows (Restore e) ids h = h
no_cycle_at_once net rows (Lock (choice.Change a)) ids h = h
no_cycle_at_once net rows (Lock (choice.Pair i j)) ids h = h
no_cycle_at_once net rows (Unlock (choice.Change a)) ids h = h
no_cycle_at_once net rows (Unlock (choice.Pair i j)) ids h = h

no_full_at_once : (net : Net) (rows : RowsValue) (m : Message) (k : ℕ) → RefusesAtOnce net rows m (Full k) → ⊥
no_full_at_once net rows (DelayEvent e d) k h = h
no_full_at_once net rows (DelayActivity a d) k h = h
no_full_at_once net rows (Pass e t) k h = h
no_full_at_once net rows (Recall e) k h = h
no_full_at_once net rows (Keep a) k h = h
no_full_at_once net rows (Drop a) k h = h
no_full_at_once net rows (First i j) k h = h
no_full_at_once net rows (AdoptAll ds) k h = no_full_in net rows h.decision k h.refused
no_full_at_once net rows (Now t) k h = h
no_full_at_once net rows (Cancel e) k h = h
no_full_at_once net rows (Restore e) k h = h
no_full_at_once net rows (Lock (choice.Change a)) k h = h
no_full_at_once net rows (Lock (choice.Pair i j)) k h = h
no_full_at_once net rows (Unlock (choice.Change a)) k h = h
no_full_at_once net rows (Unlock (choice.Pair i j)) k h = h

no_memory_at_once : (net : Net) (rows : RowsValue) (m : Message) → RefusesAtOnce net rows m OutOfMemory → ⊥
no_memory_at_once net rows (DelayEvent e d) h = h
no_memory_at_once net rows (DelayActivity a d) h = h
no_memory_at_once net rows (Pass e t) h = h
no_memory_at_once net rows (Recall e) h = h
no_memory_at_once net rows (Keep a) h = h
no_memory_at_once net rows (Drop a) h = h
no_memory_at_once net rows (First i j) h = h
no_memory_at_once net rows (AdoptAll ds) h = no_memory_in net rows h.decision h.refused
no_memory_at_once net rows (Now t) h = h
no_memory_at_once net rows (Cancel e) h = h
no_memory_at_once net rows (Restore e) h = h
no_memory_at_once net rows (Lock (choice.Change a)) h = h
no_memory_at_once net rows (Lock (choice.Pair i j)) h = h
no_memory_at_once net rows (Unlock (choice.Change a)) h = h
no_memory_at_once net rows (Unlock (choice.Pair i j)) h = h

module _ (net : Net) (rows : RowsValue) (n : ℕ) (m : Message) (nothing : RefusesNothing (Refuses net rows n m)) where
  passes_at_once : PassesAtOnce net rows m
  passes_at_once (Cycle ids) h = no_cycle_at_once net rows m ids h
  passes_at_once (Full k) h = no_full_at_once net rows m k h
  passes_at_once OutOfMemory h = no_memory_at_once net rows m h
  passes_at_once r h = nothing r h

  now_or_no_cycle : IsNow m ⊎ HasNoCycle net (after net rows m)
  now_or_no_cycle =
      elim (now_or_not m) [
        | inl now ↦ inl now
        | inr not_now ↦ inr (λ cycle is_cycle. nothing (Cycle (ids_of net cycle)) (passes_at_once, not_now, record { places = cycle; is_cycle = is_cycle; named = refl }))
      ]

  pub has_room : n ≤ ENTRIES → n < ENTRIES
  has_room le =
      elim (cases_lt n ENTRIES) [
        | inl lt ↦ lt
        | inr no_less ↦ let full : n ≡ ENTRIES = omega arith in absurd (nothing (Full n) (passes_at_once, now_or_no_cycle, full, refl))
      ]

-- ---- the latest plan is a true one

-- the latest plan, where there is one, may be adopted for the rows that it is for
abbrev IsGoodOrNone : Setting → List Entry → Option Chosen → Type 0
IsGoodOrNone s h None = Unit {0}
IsGoodOrNone s h (Some plan) = MayBeAdopted s.net (rows_after s h plan.entry) plan.choices

planned_is_good : (s : Setting) (h : List Entry) (feed : ℕ) (before : List LogItem) (line : ℕ) (plan : Plan) (said : Line) → IsTrueReply s h feed before line said (Planned plan)
    → MayBeAdopted s.net (rows_after s h plan.entry) plan.choices
planned_is_good s h feed before line plan (AskPlan budget) t = record { free = t.is_true.choices; no_cycle = t.is_true.cost.no_cycle }
planned_is_good s h feed before line plan (AskSolve budget) t = absurd t
planned_is_good s h feed before line plan (Say m) t = absurd t
planned_is_good s h feed before line plan (AskTime event) t = absurd t
planned_is_good s h feed before line plan AskCost t = absurd t
planned_is_good s h feed before line plan AskAdopt t = absurd t
planned_is_good s h feed before line plan AskCarry t = absurd t
planned_is_good s h feed before line plan AskRead t = absurd t

solved_is_good : (s : Setting) (h : List Entry) (feed : ℕ) (before : List LogItem) (line : ℕ) (plan : PlanByParts) (said : Line) → IsTrueReply s h feed before line said (Solved plan)
    → MayBeAdopted s.net (rows_after s h plan.entry) plan.choices
solved_is_good s h feed before line plan (AskSolve budget) t = record { free = t.is_true.choices; no_cycle = t.is_true.cost.no_cycle }
solved_is_good s h feed before line plan (AskPlan budget) t = absurd t
solved_is_good s h feed before line plan (Say m) t = absurd t
solved_is_good s h feed before line plan (AskTime event) t = absurd t
solved_is_good s h feed before line plan AskCost t = absurd t
solved_is_good s h feed before line plan AskAdopt t = absurd t
solved_is_good s h feed before line plan AskCarry t = absurd t
solved_is_good s h feed before line plan AskRead t = absurd t

good_after_reply : (s : Setting) (h : List Entry) (feed : ℕ) (before : List LogItem) (line : ℕ) (said : Line) (latest : Option Chosen) (reply : Reply) → IsTrueReply s h feed before line said reply
    → IsGoodOrNone s h latest → IsGoodOrNone s h (plan_after_reply latest reply)
good_after_reply s h feed before line said latest (Planned plan) t good = planned_is_good s h feed before line plan said t
good_after_reply s h feed before line said latest (Solved plan) t good = solved_is_good s h feed before line plan said t
good_after_reply s h feed before line said latest (Ok n) t good = good
good_after_reply s h feed before line said latest (Refused at) t good = good
good_after_reply s h feed before line said latest (Time n x) t good = good
good_after_reply s h feed before line said latest (Cost n c) t good = good
good_after_reply s h feed before line said latest (Read n) t good = good
good_after_reply s h feed before line said latest (Old n) t good = good
good_after_reply s h feed before line said latest NoPlan t good = good
good_after_reply s h feed before line said latest Plans t good = good
good_after_reply s h feed before line said latest (Range v) t good = good

good_after : (s : Setting) (h : List Entry) (feed : ℕ) (before : List LogItem) (latest : Option Chosen) (x : LogItem) → IsTrueAnswer s h feed before x → IsGoodOrNone s h latest → IsGoodOrNone s h (plan_after latest x)
good_after s h feed before latest (Malformed line) t good = good
good_after s h feed before latest (Answered line said reply) t good = good_after_reply s h feed before line said latest reply t good

goods : (s : Setting) (h : List Entry) (feed : ℕ) (before : List LogItem) (latest : Option Chosen) (items : List LogItem) → AreTrueAnswers s h feed before items → IsGoodOrNone s h latest
    → IsGoodOrNone s h (fold plan_after latest items)
goods s h feed before latest [] t good = good
goods s h feed before latest (x ∷ items) t good =
    goods s h feed (before ++ x ∷ []) (plan_after latest x) items t.1 (good_after s h feed before latest x t.0 good)

-- ---- a message that is entered

-- the history has room for the message, and nothing refuses it
pub record IsAdmitted (s : Setting) (h : List Entry) (m : Message) : Type 0 where
  pub room : length h < ENTRIES
  pub passes : (r : Refusal) → Refuses s.net (rows_after s h (length h)) (length h) m r → ⊥

module _ (s : Setting) (network : IsNetwork s.net) (h : List Entry) (legal : IsLegal s.net s.start h) (feed : ℕ) (before : List LogItem) (answers : AreTrueAnswers s h feed [] before) where
  adopted_is_admitted : (m : Message) (latest : Option Chosen) → IsGoodOrNone s h latest → IsSomeAnd latest (λ plan. IsPresent h m plan) → IsAdmitted s h m
  adopted_is_admitted m None good to_enter = absurd to_enter
  adopted_is_admitted m (Some plan) good to_enter =
      let rows : RowsValue = rows_after s h (length h) in
      let here : MayBeAdopted s.net (rows_after s h (length h)) plan.choices = subst (λ (n : ℕ). MayBeAdopted s.net (rows_after s h n) plan.choices) to_enter.present good in
      record {
        room = to_enter.room;
        passes = subst (λ (message : Message). (r : Refusal) → Refuses s.net rows (length h) message r → ⊥) to_enter.choices
            (free_choices_are_admitted s.net rows network plan.choices here.free (length h) to_enter.room here.no_cycle);
      }

  said_is_admitted : (said : Line) (m : Message) → IsToEnter s h before said m → IsAdmitted s h m
  said_is_admitted (Say own) m t =
      subst (IsAdmitted s h) t.0 (record { room = has_room s.net (rows_after s h (length h)) (length h) own t.1 legal.size; passes = t.1 })
  said_is_admitted AskAdopt m t = adopted_is_admitted m (latest_plan before) (goods s h feed [] None before answers tt) t
  said_is_admitted AskCarry m t = record { room = has_room s.net (rows_after s h (length h)) (length h) m t.1 legal.size; passes = t.1 }
  said_is_admitted (AskTime event) m t = absurd t
  said_is_admitted AskCost m t = absurd t
  said_is_admitted (AskPlan budget) m t = absurd t
  said_is_admitted (AskSolve budget) m t = absurd t
  said_is_admitted AskRead m t = absurd t

  pub item_is_admitted : (x : LogItem) (m : Message) → IsItemToEnter s h before x m → IsAdmitted s h m
  item_is_admitted (Malformed line) m t = absurd t
  item_is_admitted (Answered line said reply) m t = said_is_admitted said m t

-- the last entry has the number of the length
last_is_entry : (h : List Entry) (e : Entry) (n : ℕ) → n ≡ length h + 1 → IsEntry (h ++ e ∷ []) n e
last_is_entry h e n is = let here : n - 1 ≡ length h = omega arith in (omega arith, ap (slice_get (h ++ e ∷ [])) here ∙ get_at h e [])

module _ (s : Setting) (h : List Entry) (feed : ℕ) (before : List LogItem) (line n : ℕ) (is : n ≡ length h + 1) where
  abbrev entry_of : Message → Entry
  entry_of m = record { feed = feed; line = line; message = m }

  entered_said : (said : Line) (m : Message) → IsToEnter s h before said m → IsTrueReply s (h ++ entry_of m ∷ []) feed before line said (Ok n)
  entered_said (Say own) m t =
      subst (λ (message : Message). IsTrueReply s (h ++ entry_of message ∷ []) feed before line (Say own) (Ok n)) t.0 (last_is_entry h (entry_of own) n is)
  entered_said AskAdopt m t = adopted (latest_plan before) t
    where
      adopted : (latest : Option Chosen) → IsSomeAnd latest (λ plan. IsPresent h m plan)
          → IsSomeAnd latest (λ plan. IsAdopted (h ++ entry_of m ∷ []) feed line n plan)
      adopted None t = absurd t
      adopted (Some plan) t =
          let present = t.present in
          record {
            next = omega arith;
            entry = subst (λ (message : Message). IsEntry (h ++ entry_of m ∷ []) n (entry_of message)) (sym t.choices) (last_is_entry h (entry_of m) n is);
          }
  entered_said AskCarry m t = carried_here (latest_plan before) t.0
    where
      carried_here : (latest : Option Chosen) → IsSomeAnd latest (λ plan. carried s h (length h) plan.choices ≡ m)
          → IsSomeAnd latest (λ plan. IsCarried s (h ++ entry_of m ∷ []) feed line n plan.choices)
      carried_here None t = absurd t
      carried_here (Some plan) t =
          let here : n - 1 ≡ length h = omega arith in
          let same : m ≡ carried s (h ++ entry_of m ∷ []) (n - 1) plan.choices =
          sym (carried_alike s (n - 1) (length h) (h ++ entry_of m ∷ []) h here (alike_shorter h (entry_of m ∷ [])) plan.choices ∙ t) in
          subst (λ (message : Message). IsEntry (h ++ entry_of m ∷ []) n (entry_of message)) same (last_is_entry h (entry_of m) n is)
  entered_said (AskTime event) m t = absurd t
  entered_said AskCost m t = absurd t
  entered_said (AskPlan budget) m t = absurd t
  entered_said (AskSolve budget) m t = absurd t
  entered_said AskRead m t = absurd t

pub entered_answer : (s : Setting) (h : List Entry) (feed : ℕ) (before : List LogItem) (x : LogItem) (n : ℕ) (m : Message) → n ≡ length h + 1 → kind_of x ≡ entered n → IsItemToEnter s h before x m
    → IsTrueAnswer s (h ++ record { feed = feed; line = line_of x; message = m } ∷ []) feed before x
entered_answer s h feed before (Malformed line) n m is kind t = absurd t
entered_answer s h feed before (Answered line said reply) n m is kind t =
    subst (λ (r : Reply). IsTrueReply s (h ++ record { feed = feed; line = line; message = m } ∷ []) feed before line said r) (sym (ok_of reply n kind))
    (entered_said s h feed before line n is said m t)

-- ---- a step

module _ (s : Setting) (network : IsNetwork s.net) (dues : List (List DueItem)) (rising : All (LinesRise 0) dues) (h : List Entry) (logs : List (List LogItem)) (holds : Holds s dues h logs)
    (place : ℕ) (due : List DueItem) (of_feed : slice_get dues place ≡ Some due) (before : List LogItem) (so_far : slice_get logs place ≡ Some before)
    (x : LogItem) (next : slice_get due (length before) ≡ Some (due_of x)) where
  abbrev more : List (List LogItem)
  more = set logs place (before ++ x ∷ [])

  log_before : IsTrueLog s h place before
  log_before = holds.each place before so_far

  due_rises : LinesRise 0 due
  due_rises = subst (LinesRise 0) (get_or_from_slice_get dues place due [] of_feed) (rising place [] (slice_get_within dues place due of_feed))

  answer_first : AnswerFirst due (before ++ x ∷ [])
  answer_first = first_push due before x (holds.first place due before of_feed so_far) next

  numbers_before : last_number 0 before ≤ length h
  numbers_before = numbers_within s h (place + 1) 0 [] before (omega arith) log_before.answers

  log_after : (later : List Entry) → AreTrueAnswers s later (place + 1) [] before → IsTrueAnswer s later (place + 1) before x → Follows (last_number 0 before) (kind_of x) → IsTrueLog s later place (before ++ x ∷ [])
  log_after later answers t follows =
      log_push s later place before x (record { answers = answers; in_order = log_before.in_order }) t (next_rises due before x due_rises answer_first) follows

  more_at : (q : ℕ) (items : List LogItem) → slice_get more q ≡ Some items → ((q ≡ place) × (items ≡ before ++ x ∷ [])) ⊎ ((q ≡ place → ⊥) × (slice_get logs q ≡ Some items))
  more_at q items at =
      elim (cases_eq q place) [
        | inl here ↦
            let there : slice_get more q ≡ Some (before ++ x ∷ []) = ap (slice_get more) here ∙ get_set_same logs place before (before ++ x ∷ []) so_far in
            inl (here, (let same : items ≡ before ++ x ∷ [] = cc in same))
        | inr other ↦ inr (other, sym (get_set_other logs place q (before ++ x ∷ []) other) ∙ at)
      ]

  more_names : (n : ℕ) → total_names n more ≡ total_names n logs + one_name n (kind_of x)
  more_names n =
      let one = sum_set (λ items. count_by (names n) items) logs place before (before ++ x ∷ []) so_far in
      let push = count_push n before x in
      omega arith

  more_first : (q : ℕ) (other : List DueItem) (items : List LogItem) → slice_get dues q ≡ Some other → slice_get more q ≡ Some items → AnswerFirst other items
  more_first q other items of_other at =
      elim (more_at q items at) [
        | inl here ↦
            let there : slice_get dues q ≡ Some due = ap (slice_get dues) here.0 ∙ of_feed in
            let same : due ≡ other = cc in
            subst (AnswerFirst other) (sym here.1) (subst (λ (d : List DueItem). AnswerFirst d (before ++ x ∷ [])) same answer_first)
        | inr elsewhere ↦ holds.first q other items of_other elsewhere.1
      ]

  -- where this is true at the place and the other logs stay true
  each_after : (later : List Entry) → IsTrueLog s later place (before ++ x ∷ []) → ((q : ℕ) (items : List LogItem) → IsTrueLog s h q items → IsTrueLog s later q items)
      → (q : ℕ) (items : List LogItem) → slice_get more q ≡ Some items → IsTrueLog s later q items
  each_after later here stays q items at =
      elim (more_at q items at) [
        | inl same ↦ subst (λ (r : ℕ). IsTrueLog s later r items) (sym same.0) (subst (IsTrueLog s later place) (sym same.1) here)
        | inr other ↦ stays q items (holds.each q items other.1)
      ]

  told_holds : IsTrueAnswer s h (place + 1) before x → Follows (last_number 0 before) (kind_of x) → ((n : ℕ) → one_name n (kind_of x) ≡ 0) → Holds s dues h more
  told_holds t follows unnamed =
      record {
        legal = holds.legal;
        each = each_after h (log_after h log_before.answers t follows) (λ q items is. is);
        once = λ n some le. let one = holds.once n some le in let none = unnamed n in omega (arith, more_names n);
        as_many = length-set logs place (before ++ x ∷ []) ∙ holds.as_many;
        first = more_first;
      }

  -- no entry above the length is named
  unnamed_yet : (n : ℕ) → length h < n → total_names n logs ≡ 0
  unnamed_yet n above =
      elim (cases_lt 0 (total_names n logs)) [
        | inl some ↦
            let part : HasPart (λ items. count_by (names n) items) logs = has_part (λ items. count_by (names n) items) logs some in
            let t : IsTrueLog s h part.place part.part = holds.each part.place part.part part.stands in
            let le : last_number 0 part.part ≤ length h = numbers_within s h (part.place + 1) 0 [] part.part (omega arith) t.answers in
            let none : count_by (names n) part.part ≡ 0 = unnamed_above n 0 0 part.part t.in_order (omega arith) in
            absurd (omega (arith, part.some))
        | inr none ↦ omega arith
      ]

  entered_holds : (n : ℕ) → kind_of x ≡ entered n → (later : List Entry) → EntersNext s h later (place + 1) before x n → Holds s dues later more
  entered_holds n kind later enters =
      let e : Entry = record { feed = place + 1; line = line_of x; message = enters.message } in
      let number : n ≡ length h + 1 = enters.number in
      let long : length (h ++ e ∷ []) ≡ length h + 1 = length-append h (e ∷ []) in
      let admitted : IsAdmitted s h enters.message = item_is_admitted s network h holds.legal (place + 1) before log_before.answers x enters.message enters.to_enter in
      let t : IsTrueAnswer s (h ++ e ∷ []) (place + 1) before x = entered_answer s h (place + 1) before x n enters.message number kind enters.to_enter in
      let follows : Follows (last_number 0 before) (kind_of x) = subst (Follows (last_number 0 before)) (sym kind) (let le = numbers_before in omega arith) in
      subst (λ (k : List Entry). Holds s dues k more) (sym enters.grown)
      (record {
        legal = legal_push s.net s.start h e holds.legal admitted.room admitted.passes;
        each = each_after (h ++ e ∷ []) (log_after (h ++ e ∷ []) (answers_grow s h (e ∷ []) (place + 1) [] before log_before.answers) t follows) (λ q items is. log_grows s h (e ∷ []) q items is);
        once = λ k some le. elim (cases_lt (length h) k) [
          | inl new ↦
              let none = unnamed_yet k new in
              let here : one_name k (kind_of x) ≡ 1 = ap (one_name k) kind ∙ (ap (λ (m : ℕ). one_name k (entered m)) (let same : n ≡ k = omega arith in same) ∙ names_itself k) in
              omega (arith, more_names k)
          | inr old ↦
              let one = holds.once k some old in
              let unnamed : one_name k (kind_of x) ≡ 0 = ap (one_name k) kind ∙ names_no_other k n (λ same. omega arith) in
              omega (arith, more_names k)
        ];
        as_many = length-set logs place (before ++ x ∷ []) ∙ holds.as_many;
        first = more_first;
      })

  step_holds : (k : Kind) → kind_of x ≡ k → (later : List Entry) → AnswersNow s h later (place + 1) before x k → Holds s dues later more
  step_holds free kind later a =
      subst (λ (l : List Entry). Holds s dues l more) (sym a.1)
      (told_holds a.0 (subst (Follows (last_number 0 before)) (sym kind) tt) (λ n. ap (one_name n) kind))
  step_holds (told m) kind later a =
      let present = a.1 in
      subst (λ (l : List Entry). Holds s dues l more) (sym a.2)
      (told_holds a.0 (subst (Follows (last_number 0 before)) (sym kind) (let le = numbers_before in omega arith)) (λ n. ap (one_name n) kind))
  step_holds (entered m) kind later a = entered_holds m kind later a

-- ---- a run

module _ (s : Setting) (network : IsNetwork s.net) (dues : List (List DueItem)) (rising : All (LinesRise 0) dues) where
  one_step : (place : ℕ) (now later : CoreState) → Holds s dues now.history now.logs → CoreStep s dues place now later → Holds s dues later.history later.logs
  one_step place now later holds step =
      subst (Holds s dues later.history) (sym step.goes_on)
      (step_holds s network dues rising now.history now.logs holds place step.due step.of_feed step.before step.so_far step.answered step.next (kind_of step.answered) refl later.history step.answers)

  all_steps : (schedule : List ℕ) (now later : CoreState) → Holds s dues now.history now.logs → CoreRun s dues schedule now later → Holds s dues later.history later.logs
  all_steps [] now later holds run = subst (λ (state : CoreState). Holds s dues state.history state.logs) run holds
  all_steps (place ∷ schedule) now later holds run = all_steps schedule run.0 later (one_step place now run.0 holds run.1) run.2

  nothing_holds : Holds s dues [] (map (λ due. []) dues)
  nothing_holds =
      record {
        legal = record { size = omega arith; accepted = λ n entry r at refused. absurd (cc) };
        each = λ place items at. subst (IsTrueLog s [] place) (sym (empty_at dues place items at)) (record { answers = tt; in_order = tt });
        once = λ n some le. absurd (omega arith);
        as_many = length-map dues (λ due. []);
        first = λ place due items of_feed at. subst (AnswerFirst due) (sym (empty_at dues place items at)) (record { others = due; in_order = refl });
      }

  -- what holds of a state that is reached
  pub reached_holds : (h : List Entry) (logs : List (List LogItem)) → IsReached s dues (record { history = h; logs = logs }) → Holds s dues h logs
  reached_holds h logs r = all_steps r.schedule (nothing_yet dues) (record { history = h; logs = logs }) nothing_holds r.run
