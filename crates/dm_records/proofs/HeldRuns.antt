-- The lists of a true run are short, so that its text tells all of it.
use Rattle.std.proofs.Common.{◌≡◌, ℕ, zero, suc, ◌+◌, ◌*◌, ◌<◌, ◌≤◌, Bool, true, false, cond, eqb, List, [], ◌∷◌, ◌++◌, length, get_or, map, All, sym, ap, subst, ◌∙◌, inl, inr, arith, length-append}
use Rattle.std.specs.Prelude.{filter}
use Rattle.std.specs.List.{range_with_len}
use Rattle.std.proofs.lemmas.List.{length-map}
use Rattle.std.proofs.lemmas.List.Sums.{length-filter, count_by-le-length}
use Rattle.std.proofs.lemmas.List.FromFn.{length-range_with_len}
use Rattle.std.proofs.lemmas.List.Elements.{All-nil, All-cons, All-head, All-tail}
use Rattle.std.proofs.lemmas.Option.{slice_get-get_or}
use Rattle.dm_network.specs.Net.{Net, pair_at, IsWithinLimits}
use Rattle.dm_network.specs.Start.{IsNetwork}
use Rattle.dm_rows.specs.declared.messages.Choice.{Choice}
use Rattle.dm_rows.specs.declared.messages.Entry.{Entry}
use Rattle.dm_rows.specs.Rows.{RowsValue}
use Rattle.dm_rows.specs.Decide.{choice_of, free_choices_of, free_changes_of, free_pairs_of, is_free_change, is_free_pair, change_choice, pair_choice}
use Rattle.dm_rows.proofs.PairEnds.{small_is_event, large_is_event}
use Rattle.dm_tree.specs.declared.plans.Plan.{Plan}
use Rattle.dm_tree.specs.Plans.{AreSomeOf, whole_task}
use Rattle.dm_tree.specs.Trees.{Shape, leaf, branch, preorder}
use Rattle.dm_parts.specs.declared.parts.Part.{Part}
use Rattle.dm_parts.specs.declared.parts.PartNode.{PartNode}
use Rattle.dm_parts.specs.declared.parts.PlanByParts.{PlanByParts}
use Rattle.dm_parts.specs.Parts.{as_node, IsTruePart}
use Rattle.dm_parts.specs.Sizes.{nodes_of}
use Rattle.std.proofs.lemmas.List.Sums.{sum_by-cons}
use Rattle.dm_feed.specs.Parts.{largest_id}
use Rattle.dm_feed.specs.declared.grammar.Line.{Line}
use Rattle.dm_feed.specs.declared.grammar.Line.TheVariants.{Say, Time as AskTime, CostNow as AskCost, Plan as AskPlan, Solve as AskSolve, Adopt as AskAdopt, Carry as AskCarry, Read as AskRead}
use Rattle.dm_cert.specs.declared.replies.Reply.{Reply}
use Rattle.dm_cert.specs.declared.replies.Reply.TheVariants.{Ok, Refused, Time, Cost, Read, Planned, Solved, Old, NoPlan, Plans, Range}
use Rattle.dm_cert.specs.declared.replies.LogItem.{LogItem}
use Rattle.dm_cert.specs.declared.replies.LogItem.TheVariants.{Malformed, Answered}
use Rattle.dm_cert.specs.declared.replies.FeedLog.{FeedLog}
use Rattle.dm_cert.specs.Answers.{Setting, rows_after, IsPlanFor, IsSolvedFor, IsTrueReply}
use Rattle.dm_cert.specs.Logs.{AreTrueAnswers, IsInOrder, IsTrueLog, kind_of, line_of, number_after}
use Rattle.dm_cert.specs.PlanLaws.{IsHeld, IsHeldSolved}
use Rattle.dm_cert.specs.RunTexts.{Run, FitsItem, FitsLog}
use Rattle.dm_cert.specs.Runs.{setting_of, IsTextOf}
use Rattle.dm_records.specs.Laws.{IsHeldReply, IsHeldItem, IsHeldLog, IsInPrint, TextsTellOneRun}
use Rattle.dm_records.proofs.RunsSplit.{runs_have_own_texts}

-- ---- a network's choices are few

-- pairs rise, and so no pair stands behind more others than its two events can tell apart
pairs_rise : (net : Net) → IsNetwork net → IsWithinLimits net → (p : ℕ) → p < length net.pairs → p ≤ (pair_at net p).small * 100000 + (pair_at net p).large
pairs_rise net network limits zero below = omega arith
pairs_rise net network limits (suc p) below =
    let before = pairs_rise net network limits p (omega arith) in
    let few : length net.events ≤ 100000 = limits.events in
    let low = large_is_event net network p (omega arith) in
    elim (network.formed.is_paired.ascending p (suc p) (omega arith) below) [
      | inl less ↦ omega (arith, before, few, low, less)
      | inr same ↦ omega (arith, before, same.0, same.1)
    ]

few_pairs : (net : Net) → IsNetwork net → IsWithinLimits net → (count : ℕ) → count ≤ length net.pairs → count ≤ 10000000000
few_pairs net network limits zero within = omega arith
few_pairs net network limits (suc p) within =
    let rank = pairs_rise net network limits p within in
    let few : length net.events ≤ 100000 = limits.events in
    let small = small_is_event net network p within in
    let large = large_is_event net network p within in
    omega (arith, rank, few, small, large)

choices_at : {X : Type 0} (choice : ℕ → X) (test : ℕ → Bool) (n : ℕ) → length (map choice (filter test (range_with_len 0 n))) ≤ n
choices_at choice test n = omega (arith, length-map (filter test (range_with_len 0 n)) choice, length-filter test (range_with_len 0 n), count_by-le-length test (range_with_len 0 n), length-range_with_len 0 n)

few_choices : (net : Net) (rows : RowsValue) → IsNetwork net → IsWithinLimits net → length (free_choices_of net rows) ≤ 20000000000
few_choices net rows network limits =
    let changes = choices_at (change_choice net) (is_free_change net rows) (length net.activities) in
    let pairs = choices_at (pair_choice net) (is_free_pair net rows) (length net.pairs) in
    let few : length net.activities ≤ 500000 = limits.activities in
    omega (arith, changes, pairs, few, few_pairs net network limits (length net.pairs) (omega arith), length-append (free_changes_of net rows) (free_pairs_of net rows))

-- ---- plans

some_are_few : (allowed chosen : List Choice) → AreSomeOf allowed chosen → length chosen ≤ length allowed
some_are_few [] chosen is = omega (arith, ap length is)
some_are_few (a ∷ allowed) [] is = omega arith
some_are_few (a ∷ allowed) (c ∷ chosen) (inl both) = let more = some_are_few allowed chosen both.1 in omega (arith, more)
some_are_few (a ∷ allowed) (c ∷ chosen) (inr later) = let more = some_are_few allowed (c ∷ chosen) later in omega (arith, more)

low_limit : (b : Bool) → cond b 4096 16384 ≤ 16384
low_limit true = omega arith
low_limit false = omega arith

abbrev HasFewChoices : Setting → Type 0
HasFewChoices s = (rows : RowsValue) → length (free_choices_of s.net rows) ≤ 20000000000

plan_held : (s : Setting) (history : List Entry) (before : List LogItem) (budget : ℕ) (plan : Plan) → HasFewChoices s → IsPlanFor s history before budget plan → IsHeld plan
plan_held s history before budget plan few is =
    let rows : RowsValue = rows_after s history plan.entry in
    let chosen = some_are_few (free_choices_of s.net rows) (map choice_of plan.choices) is.is_true.choices in
    let limit : budget ≤ cond (eqb s.version 1) 4096 16384 = is.in_range.1 in
    record {
      choices = omega (arith, chosen, few rows, length-map plan.choices choice_of);
      nodes = omega (arith, is.is_true.size, limit, low_limit (eqb s.version 1));
    }

-- each part has some node
part_has_node : (s : Setting) (rows : RowsValue) (budget : ℕ) (part : Part) → IsTruePart (whole_task s.net rows s.penalty budget) part → 1 ≤ length part.tree
part_has_node s rows budget part is = some_node is.shape part.tree is.in_preorder
  where
    some_node : (t : Shape) (nodes : List PartNode) → preorder t ≡ map as_node nodes → 1 ≤ length nodes
    some_node (leaf n) nodes e = let size = ap length e in let mapped = length-map nodes as_node in omega (arith, size, mapped)
    some_node (branch c a b) nodes e = let size = ap length e in let mapped = length-map nodes as_node in omega (arith, size, mapped)

few_parts : (s : Setting) (rows : RowsValue) (budget : ℕ) (parts : List Part) → All (IsTruePart (whole_task s.net rows s.penalty budget)) parts → length parts ≤ nodes_of parts
few_parts s rows budget [] are = omega arith
few_parts s rows budget (part ∷ parts) are =
    let here = part_has_node s rows budget part (All-head (IsTruePart (whole_task s.net rows s.penalty budget)) part parts are) in
    let later = few_parts s rows budget parts (All-tail (IsTruePart (whole_task s.net rows s.penalty budget)) part parts are) in
    let e = sum_by-cons (λ (p : Part). length p.tree) part parts in
    omega (arith, here, later, e)

solved_held : (s : Setting) (history : List Entry) (before : List LogItem) (budget : ℕ) (plan : PlanByParts) → HasFewChoices s → IsSolvedFor s history before budget plan → IsHeldSolved plan
solved_held s history before budget plan few is =
    let rows : RowsValue = rows_after s history plan.entry in
    let chosen = some_are_few (free_choices_of s.net rows) (map choice_of plan.choices) is.is_true.choices in
    let limit : budget ≤ cond (eqb s.version 1) 4096 16384 = is.in_range.1 in
    let parts = few_parts s rows budget plan.parts is.is_true.parts in
    let low = low_limit (eqb s.version 1) in
    let size = is.is_true.size in
    record {
      choices = omega (arith, chosen, few rows, length-map plan.choices choice_of);
      parts = omega (arith, parts, size, limit, low);
      nodes = omega (arith, size, limit, low);
    }

solved_reply_held : (s : Setting) (history : List Entry) (feed : ℕ) (before : List LogItem) (line : ℕ) (said : Line) (plan : PlanByParts) → HasFewChoices s →
    IsTrueReply s history feed before line said (Solved plan) → IsHeldSolved plan
solved_reply_held s history feed before line (Say message) plan few is = absurd is
solved_reply_held s history feed before line (AskTime event) plan few is = absurd is
solved_reply_held s history feed before line AskCost plan few is = absurd is
solved_reply_held s history feed before line (AskPlan budget) plan few is = absurd is
solved_reply_held s history feed before line (AskSolve budget) plan few is = solved_held s history before budget plan few is
solved_reply_held s history feed before line AskAdopt plan few is = absurd is
solved_reply_held s history feed before line AskCarry plan few is = absurd is
solved_reply_held s history feed before line AskRead plan few is = absurd is

plan_reply_held : (s : Setting) (history : List Entry) (feed : ℕ) (before : List LogItem) (line : ℕ) (said : Line) (plan : Plan) → HasFewChoices s →
    IsTrueReply s history feed before line said (Planned plan) → IsHeld plan
plan_reply_held s history feed before line (Say message) plan few is = absurd is
plan_reply_held s history feed before line (AskTime event) plan few is = absurd is
plan_reply_held s history feed before line AskCost plan few is = absurd is
plan_reply_held s history feed before line (AskPlan budget) plan few is = plan_held s history before budget plan few is
plan_reply_held s history feed before line (AskSolve budget) plan few is = absurd is
plan_reply_held s history feed before line AskAdopt plan few is = absurd is
plan_reply_held s history feed before line AskCarry plan few is = absurd is
plan_reply_held s history feed before line AskRead plan few is = absurd is

reply_held : (s : Setting) (history : List Entry) (feed : ℕ) (before : List LogItem) (line : ℕ) (said : Line) (r : Reply) → HasFewChoices s →
    IsTrueReply s history feed before line said r → IsHeldReply r
reply_held s history feed before line said (Ok n) few is = tt
reply_held s history feed before line said (Refused at) few is = tt
reply_held s history feed before line said (Time n x) few is = tt
reply_held s history feed before line said (Cost n c) few is = tt
reply_held s history feed before line said (Read n) few is = tt
reply_held s history feed before line said (Planned plan) few is = plan_reply_held s history feed before line said plan few is
reply_held s history feed before line said (Solved plan) few is = solved_reply_held s history feed before line said plan few is
reply_held s history feed before line said (Old n) few is = tt
reply_held s history feed before line said NoPlan few is = tt
reply_held s history feed before line said Plans few is = tt
reply_held s history feed before line said (Range v) few is = tt

-- ---- logs

items_held : (s : Setting) (history : List Entry) (feed : ℕ) (before items : List LogItem) → HasFewChoices s → AreTrueAnswers s history feed before items → All IsHeldItem items
items_held s history feed before [] few are = All-nil IsHeldItem
items_held s history feed before (Malformed line ∷ items) few are =
    All-cons IsHeldItem (Malformed line) items tt (items_held s history feed (before ++ Malformed line ∷ []) items few are.1)
items_held s history feed before (Answered line said r ∷ items) few are =
    All-cons IsHeldItem (Answered line said r) items (reply_held s history feed before line said r few are.0) (items_held s history feed (before ++ Answered line said r ∷ []) items few are.1)

fits_line : (x : LogItem) → FitsItem x → line_of x ≤ largest_id
fits_line (Malformed line) fits = fits
fits_line (Answered line said r) fits = fits.0

-- lines rise, and so there are no more items than lines
few_items : (line last : ℕ) (items : List LogItem) → line ≤ largest_id → IsInOrder line last items → All FitsItem items → line + length items ≤ largest_id
few_items line last [] low order fits = omega (arith, low)
few_items line last (x ∷ items) low order fits =
    let here = fits_line x (All-head FitsItem x items fits) in
    let more = few_items (line_of x) (number_after last (kind_of x)) items here order.2 (All-tail FitsItem x items fits) in
    omega (arith, more, order.0)

log_held : (s : Setting) (history : List Entry) (place : ℕ) (log : FeedLog) → HasFewChoices s → FitsLog log → IsTrueLog s history place log.items → IsHeldLog log
log_held s history place log few fits is = record {
  size = omega (arith, few_items 0 0 log.items (omega arith) is.in_order fits);
  items = items_held s history (place + 1) [] log.items few is.answers;
}

-- ---- runs

pub is_in_print : (version plans : ℕ) (start : RowsValue) (run : Run) (text : List ℕ) → IsNetwork run.net → IsWithinLimits run.net → IsTextOf version plans start run text → IsInPrint run
is_in_print version plans start run text network limits is =
    let entries : length run.history ≤ 1000000 = is.is_true.legal.size in
    let feeds : length run.logs ≤ 64 = is.is_true.few_feeds in
    let boards : length run.notes ≤ 64 = is.is_true.notes.few in
    record {
      spelled = is.is_spelled;
      fits = is.fits;
      held = record {
        history = omega (arith, entries);
        feeds = omega (arith, feeds);
        logs = λ k d below.
            log_held (setting_of version plans start run) run.history k (get_or run.logs k d) (λ rows. few_choices run.net rows network limits) (is.fits.logs k d below)
            (is.is_true.logs.each k (get_or run.logs k d) (slice_get-get_or run.logs k d below));
        notes = omega (arith, boards);
      };
    }

pub texts_tell_one_run : TextsTellOneRun
texts_tell_one_run version other_version plans other_plans start other_start one other text network limits is also net =
    let good = is_in_print version plans start one text network limits is in
    let good_too = is_in_print other_version other_plans other_start other text (subst IsNetwork net network) (subst IsWithinLimits net limits) also in
    let same = runs_have_own_texts version other_version one other [] [] is.is_version also.is_version good good_too net
    (ap (λ xs. xs ++ []) (sym is.spelled ∙ also.spelled)) in
    record { same_version = same.same_version; run = same.run }
