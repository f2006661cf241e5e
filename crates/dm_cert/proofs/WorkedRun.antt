-- The worked run of the connection at one station is true.
use Rattle.std.proofs.Common.{◌≡◌, ℕ, zero, suc, ◌<◌, ◌≤◌, List, [], ◌∷◌, All, arith, refl, sym, subst, inl, inr, lit<, lit≤}
use Rattle.std.specs.Prelude.{Some, None, slice_get, count_by}
use Rattle.std.proofs.lemmas.List.Elements.{All-nil, All-cons}
use Rattle.dm_rows.specs.declared.messages.Choice.TheVariants.{Change}
use Rattle.dm_rows.specs.declared.messages.Decision.TheVariants.{Drop, First}
use Rattle.dm_rows.specs.declared.messages.Entry.{Entry}
use Rattle.dm_rows.specs.declared.messages.Refusal.{Refusal}
use Rattle.dm_rows.specs.declared.messages.Refusal.TheVariants as refusal
use Rattle.dm_rows.specs.Active.{is_active, HasNoCycle}
use Rattle.dm_rows.specs.Refuse.{Refuses}
use Rattle.dm_rows.specs.History.{rows_at, IsLegal}
use Rattle.dm_rows.specs.Examples.{event_id, activity_id, connection, at_start, delayed}
use Rattle.dm_rows.proofs.AsGraph.{active_enter_no_passed}
use Rattle.dm_feed.specs.declared.vocabulary.Word.TheVariants.{Delay, Event, Plan as PlanWord, Solve as SolveWord, Drop as DropWord, First as FirstWord}
use Rattle.dm_feed.specs.declared.feed.FeedStop.TheVariants.{End}
use Rattle.dm_feed.specs.Parts.{word, id, value, Fits}
use Rattle.dm_feed.specs.Lines.{HasSortedChoice}
use Rattle.dm_tree.specs.declared.forms.Node.TheVariants.{Inner, Bound}
use Rattle.dm_tree.proofs.Shown.{shown_least, shown_acyclic}
use Rattle.dm_tree.proofs.WorkedPlan.{worked_plan_is_true}
use Rattle.dm_tree.specs.Trees.{IsTree, leaf, branch}
use Rattle.dm_tree.specs.Worked.{worked_plan}
use Rattle.dm_parts.specs.declared.parts.PartNode.TheVariants.{Inner as PartInner, Leaf}
use Rattle.dm_parts.specs.Worked.{second_part, worked_plan_by_parts}
use Rattle.dm_parts.proofs.WorkedParts.{worked_plan_by_parts_is_true}
use Rattle.dm_cert.specs.declared.replies.LogItem.{LogItem}
use Rattle.dm_cert.specs.declared.replies.FeedLog.{FeedLog}
use Rattle.dm_cert.specs.Answers.{plan_limit}
use Rattle.dm_cert.specs.Logs.{names, all_items, IsTrueLog}
use Rattle.dm_cert.specs.PlanTexts.{IsVersion, FitsDecision, FitsNode, FitsPlan}
use Rattle.dm_cert.specs.RunTexts.{Run, KnowsItem, KnowsLog, FitsItem, FitsLog, FitsEntry, FitsNote, FitsRun, IsSpelledItem, IsSpelledLog, IsSpelledRun}
use Rattle.dm_cert.specs.Runs.{setting_of, IsTrueNote, IsTrueRun}
use Rattle.dm_cert.specs.SolvedTexts.{IsSpelledPartNode, IsSpelledPart, IsSpelledSolved, FitsPartNode, FitsPart, FitsSolved}
use Rattle.dm_cert.specs.Worked.{a_minute_late, late_entry, late_item, plan_item, solved_item, late_run, PlannedRunIsTrue, SolvedRunIsTrue}

-- ---- short lists

all_two : {X : Type 0} (P : X → Type 0) (a b : X) → P a → P b → All P (a ∷ b ∷ [])
all_two P a b p q = All-cons P a (b ∷ []) p (All-cons P b [] q (All-nil P))

all_three : {X : Type 0} (P : X → Type 0) (a b c : X) → P a → P b → P c → All P (a ∷ b ∷ c ∷ [])
all_three P a b c p q r = All-cons P a (b ∷ c ∷ []) p (all_two P b c q r)

all_four : {X : Type 0} (P : X → Type 0) (a b c d : X) → P a → P b → P c → P d → All P (a ∷ b ∷ c ∷ d ∷ [])
all_four P a b c d p q r s = All-cons P a (b ∷ c ∷ d ∷ []) p (all_three P b c d q r s)

-- ---- the run

abbrev items : List LogItem
items = late_item ∷ plan_item ∷ []

abbrev the_run : Run
the_run = late_run items

-- with a plan by parts
abbrev solved_items : List LogItem
solved_items = late_item ∷ solved_item ∷ []

abbrev solved_run : Run
solved_run = late_run solved_items

-- ---- the message is refused by nothing

no_cycle : HasNoCycle connection delayed
no_cycle = shown_acyclic connection (is_active connection delayed) (0 ∷ 1 ∷ 2 ∷ 3 ∷ 4 ∷ 5 ∷ []) refl

not_refused : (r : Refusal) → Refuses connection at_start 0 a_minute_late r → ⊥
not_refused (refusal.Range v) h = omega (arith, h.0)
not_refused (refusal.UnknownEvent u) h = let e : Some 0 ≡ None = h.1 in cc
not_refused (refusal.UnknownActivity a) h = h
not_refused (refusal.UnknownChange a) h = h
not_refused (refusal.UnknownPair i j) h = h
not_refused (refusal.Passed p t) h = let e : None ≡ Some t = h.1 in cc
not_refused (refusal.NotPassed e) h = h
not_refused (refusal.Cancelled e) h = h
not_refused (refusal.NotCancelled e) h = h
not_refused (refusal.Locked c) h = h
not_refused (refusal.NotLocked c) h = h
not_refused (refusal.Back c) h = h
not_refused (refusal.Cycle ids) h = no_cycle h.2.places h.2.is_cycle
not_refused (refusal.Full k) h = omega (arith, h.2)
not_refused refusal.OutOfMemory h = h

accepted : (n : ℕ) (entry : Entry) (r : Refusal) → slice_get (late_entry ∷ []) n ≡ Some entry → Refuses connection (rows_at connection at_start (late_entry ∷ []) n) n entry.message r → ⊥
accepted zero entry r is refuses =
    let same : late_entry ≡ entry = cc in
    not_refused r (subst (λ (e : Entry). Refuses connection at_start 0 e.message r) (sym same) refuses)
accepted (suc n) entry r is refuses = let e : None ≡ Some entry = is in cc

legal : IsLegal connection at_start (late_entry ∷ [])
legal = record { size = lit≤ tt; accepted = accepted }

-- ---- the log is true

in_range : (version : ℕ) → IsVersion version → 100 ≤ plan_limit version
in_range version (inl e) = subst (λ (v : ℕ). 100 ≤ plan_limit v) (sym e) (lit≤ tt)
in_range version (inr e) = subst (λ (v : ℕ). 100 ≤ plan_limit v) (sym e) (lit≤ tt)

true_log : (version : ℕ) → 100 ≤ plan_limit version → IsTrueLog (setting_of version 16 at_start the_run) (late_entry ∷ []) 0 items
true_log version in_range =
    record {
      answers = (
        (lit< tt, refl),
        (record { within = lit≤ tt; in_range = (lit≤ tt, in_range); fewer = lit< tt; is_true = worked_plan_is_true }, tt),
      );
      in_order = (lit< tt, lit< tt, (lit< tt, lit≤ tt, tt));
    }

true_solved_log : (version : ℕ) → 100 ≤ plan_limit version → IsTrueLog (setting_of version 16 at_start solved_run) (late_entry ∷ []) 0 solved_items
true_solved_log version in_range =
    record {
      answers = (
        (lit< tt, refl),
        (record { within = lit≤ tt; in_range = (lit≤ tt, in_range); fewer = lit< tt; is_true = worked_plan_by_parts_is_true }, tt),
      );
      in_order = (lit< tt, lit< tt, (lit< tt, lit≤ tt, tt));
    }

module _ (version : ℕ) (held : List LogItem) (log_is_true : IsTrueLog (setting_of version 16 at_start (late_run held)) (late_entry ∷ []) 0 held)
    (one : count_by (names 1) (all_items (late_run held).logs) ≡ 1) where
  each : (place : ℕ) (log : FeedLog) → slice_get (late_run held).logs place ≡ Some log →
      IsTrueLog (setting_of version 16 at_start (late_run held)) (late_entry ∷ []) place log.items
  each zero log is =
      let same : held ≡ log.items = cc in
      subst (IsTrueLog (setting_of version 16 at_start (late_run held)) (late_entry ∷ []) 0) same log_is_true
  each (suc n) log is = let e : None ≡ Some log = is in cc

  once : (n : ℕ) → 0 < n → n ≤ 1 → count_by (names n) (all_items (late_run held).logs) ≡ 1
  once n some few = let e : n ≡ 1 = omega arith in subst (λ (k : ℕ). count_by (names k) (all_items (late_run held).logs) ≡ 1) (sym e) one

  true_run : IsTrueRun version 16 at_start (late_run held)
  true_run =
      record {
        some_feed = lit≤ tt;
        few_feeds = lit≤ tt;
        legal = legal;
        logs = record { each = each; once = once };
        notes = record {
          few = lit≤ tt;
          each = All-nil (IsTrueNote 1);
          once = λ i j one other is also same. (let e : None ≡ Some one = is in cc);
          in_order = λ i j one other is also le. (let e : None ≡ Some one = is in cc);
        };
        least = shown_least connection delayed (is_active connection delayed) the_run.times (0 ∷ 0 ∷ 1 ∷ 2 ∷ 4 ∷ 3 ∷ [])
            (active_enter_no_passed connection delayed) refl refl refl refl refl;
        cost = refl;
      }

-- ---- its numbers fit

line_fits : All Fits (word Delay ∷ word Event ∷ id 1 ∷ value 60 ∷ [])
line_fits = all_four Fits (word Delay) (word Event) (id 1) (value 60) tt tt (lit≤ tt) (lit≤ tt)

plan_line_fits : All Fits (word PlanWord ∷ value 100 ∷ [])
plan_line_fits = all_two Fits (word PlanWord) (value 100) tt (lit≤ tt)

drop_fits : FitsDecision (Drop (activity_id 5))
drop_fits = all_two Fits (word DropWord) (id 5) tt (lit≤ tt)

first_fits : FitsDecision (First (event_id 5) (event_id 3))
first_fits = all_three Fits (word FirstWord) (id 5) (id 3) tt (lit≤ tt) (lit≤ tt)

tree : IsTree worked_plan.tree
tree =
    record {
      shape = branch (Change (activity_id 5)) (leaf (Bound 1075000)) (leaf (Bound 940000));
      in_preorder = refl;
      proper = (tt, tt, tt);
      whole = (tt, tt);
    }

plan_fits : FitsPlan worked_plan
plan_fits =
    record {
      choices = all_two FitsDecision (Drop (activity_id 5)) (First (event_id 5) (event_id 3)) drop_fits first_fits;
      cost = lit≤ tt;
      bound = lit≤ tt;
      nodes = all_three FitsNode (Inner (Change (activity_id 5))) (Bound 1075000) (Bound 940000) (lit≤ tt) (lit≤ tt) (lit≤ tt);
      is_tree = tree;
    }

log_fits : All FitsItem items
log_fits =
    all_two FitsItem late_item plan_item (lit≤ tt, line_fits, lit≤ tt) (lit≤ tt, plan_line_fits, (lit≤ tt, plan_fits))

times_fit : All (λ x. x ≤ 18446744073709551615) the_run.times
times_fit =
    let P : ℕ → Type 0 = λ x. x ≤ 18446744073709551615 in
    All-cons P 160 (250 ∷ 260 ∷ 340 ∷ 270 ∷ 365 ∷ []) (lit≤ tt)
    (All-cons P 250 (260 ∷ 340 ∷ 270 ∷ 365 ∷ []) (lit≤ tt) (all_four P 260 340 270 365 (lit≤ tt) (lit≤ tt) (lit≤ tt) (lit≤ tt)))

solve_line_fits : All Fits (word SolveWord ∷ value 100 ∷ [])
solve_line_fits = all_two Fits (word SolveWord) (value 100) tt (lit≤ tt)

part_fits : FitsPart second_part
part_fits =
    record {
      arrivals = All-cons (λ id. id ≤ 4294967295) 6 [] (lit≤ tt) (All-nil (λ id. id ≤ 4294967295));
      changes = All-cons (λ id. id ≤ 4294967295) 5 [] (lit≤ tt) (All-nil (λ id. id ≤ 4294967295));
      nodes = all_three FitsPartNode (PartInner (Change (activity_id 5))) (Leaf 175000) (Leaf 40000) (lit≤ tt) (lit≤ tt) (lit≤ tt);
      bound = lit≤ tt;
    }

solved_fits : FitsSolved worked_plan_by_parts
solved_fits =
    record {
      choices = all_two FitsDecision (Drop (activity_id 5)) (First (event_id 5) (event_id 3)) drop_fits first_fits;
      cost = lit≤ tt;
      bound = lit≤ tt;
      parts = All-cons FitsPart second_part [] part_fits (All-nil FitsPart);
      rest = lit≤ tt;
    }

solved_log_fits : All FitsItem solved_items
solved_log_fits =
    all_two FitsItem late_item solved_item (lit≤ tt, line_fits, lit≤ tt) (lit≤ tt, solve_line_fits, (lit≤ tt, solved_fits))

fits : (held : List LogItem) → All FitsItem held → FitsRun (late_run held)
fits held log_fits =
    record {
      penalty = lit≤ tt;
      history = All-cons FitsEntry late_entry [] (lit≤ tt, lit≤ tt, line_fits) (All-nil FitsEntry);
      logs = All-cons FitsLog (record { items = held; stop = End }) [] log_fits (All-nil FitsLog);
      notes = All-nil FitsNote;
      times = times_fit;
      cost = lit≤ tt;
    }

-- ---- its texts

log_spelled : All IsSpelledItem items
log_spelled = all_two IsSpelledItem late_item plan_item (tt, tt) (tt, tt)

part_spelled : IsSpelledPart second_part
part_spelled =
    record {
      arrivals = λ k below. absurd (omega (arith, below));
      changes = λ k below. absurd (omega (arith, below));
      some_node = lit< tt;
      nodes = all_three IsSpelledPartNode (PartInner (Change (activity_id 5))) (Leaf 175000) (Leaf 40000) tt tt tt;
    }

solved_spelled : IsSpelledSolved worked_plan_by_parts
solved_spelled = record { parts = All-cons IsSpelledPart second_part [] part_spelled (All-nil IsSpelledPart); few_ids = lit≤ tt }

solved_log_spelled : All IsSpelledItem solved_items
solved_log_spelled = all_two IsSpelledItem late_item solved_item (tt, tt) (tt, solved_spelled)

spelled : (held : List LogItem) → All IsSpelledItem held → IsSpelledRun (late_run held)
spelled held log_spelled =
    record {
      history = All-cons (λ (entry : Entry). HasSortedChoice entry.message) late_entry [] tt (All-nil (λ (entry : Entry). HasSortedChoice entry.message));
      logs = All-cons IsSpelledLog (record { items = held; stop = End }) [] log_spelled (All-nil IsSpelledLog);
      times = refl;
    }

pub planned_run_is_true : PlannedRunIsTrue
planned_run_is_true version is_version =
    let log : FeedLog = record { items = items; stop = End } in
    record {
      version = version;
      history = late_entry ∷ [];
      logs = log ∷ [];
      notes = [];
      times = the_run.times;
      cost = 1075000;
      is_text = record {
        is_version = is_version;
        is_true = true_run version items (true_log version (in_range version is_version)) refl;
        fits = fits items log_fits;
        is_spelled = spelled items log_spelled;
        known = All-cons (KnowsLog version) log [] (all_two (KnowsItem version) late_item plan_item (tt, tt) (tt, tt)) (All-nil (KnowsLog version));
        spelled = refl;
      };
    }

pub solved_run_is_true : SolvedRunIsTrue
solved_run_is_true =
    let log : FeedLog = record { items = solved_items; stop = End } in
    record {
      version = 2;
      history = late_entry ∷ [];
      logs = log ∷ [];
      notes = [];
      times = solved_run.times;
      cost = 1075000;
      is_text = record {
        is_version = inr refl;
        is_true = true_run 2 solved_items (true_solved_log 2 (in_range 2 (inr refl))) refl;
        fits = fits solved_items solved_log_fits;
        is_spelled = spelled solved_items solved_log_spelled;
        known = All-cons (KnowsLog 2) log [] (all_two (KnowsItem 2) late_item solved_item (tt, tt) (refl, refl)) (All-nil (KnowsLog 2));
        spelled = refl;
      };
    }
