-- Where the texts of entries, logs, notes and times stand, they are told.
use Rattle.std.proofs.Common.{◌≡◌, ℕ, ◌+◌, ◌≤◌, List, [], ◌∷◌, ◌++◌, length, All, refl, sym, ap, subst, ◌∙◌, arith, codes}
use Rattle.std.specs.List.{flat_map}
use Rattle.std.specs.Fmt.{decimal}
use Rattle.dm_outside.specs.Printing.{joined}
use Rattle.dm_text.specs.Judging.{Times, Gives}
use Rattle.dm_network.specs.Net.{Net, event_at}
use Rattle.dm_rows.specs.declared.messages.Entry.{Entry}
use Rattle.dm_rows.specs.Rows.{RowsValue}
use Rattle.dm_feed.specs.Lines.{HasSortedChoice}
use Rattle.dm_feed.specs.Parts.{largest_id}
use Rattle.dm_cert.specs.declared.notes.Note.{Note}
use Rattle.dm_cert.specs.declared.replies.LogItem.{LogItem}
use Rattle.dm_cert.specs.declared.replies.FeedLog.{FeedLog}
use Rattle.dm_cert.specs.Answers.{Setting}
use Rattle.dm_cert.specs.PlanTexts.{line_end, largest_cost}
use Rattle.dm_cert.specs.RunTexts.{entry_text, feed_text, stop_text, item_text, log_text, note_text, FitsEntry, FitsNote, FitsItem, FitsLog, IsSpelledItem, IsSpelledLog, KnowsItem, KnowsLog}
use Rattle.dm_records.specs.Laws.{IsHeldItem, IsHeldLog}
use Rattle.dm_records.specs.RunLines.{LogOpening, IsEntryLine, IsOpeningLine, IsStopLine, IsNoteLine, IsTimeLine}
use Rattle.dm_check.specs.declared.verdicts.BadKind.TheVariants as kind
use Rattle.dm_check.specs.FalseRecords.{Reads, Rules, IsNextEntry, TellsEntry, IsNextItem, TellsItem, TellsLog, IsNextNote, TellsNote, IsNextTime, TellsTime}
use Rattle.dm_check.proofs.Spelled.{same_each, log_same, timed_text}
use Rattle.dm_records.proofs.Each.{Each, each_of_splits, each_both, all_there}
use Rattle.dm_check.proofs.Truth.Items.{IsPrinted, item_told}
use Rattle.dm_records.proofs.LinesSpelled.{entry_line}
use Rattle.dm_check.proofs.Truth.Lines.{stop_line, note_line, time_line}
use Rattle.dm_records.proofs.ItemLines.{opening_line}
use Rattle.dm_records.proofs.Named.{IsTrueBehind}
use Rattle.dm_check.proofs.Truth.Standing.{IsTold, line_stands, rule_stands, then_stands, all_stand}
use Rattle.dm_check.proofs.Truth.Truths.{numbered_next, items_next, timed_next}

pub entry_told : (s : Setting) (feeds : ℕ) (before : List Entry) (entry : Entry) → IsNextEntry s feeds before (numbered_next before entry) → length before + 1 ≤ largest_id → FitsEntry entry →
    HasSortedChoice entry.message → IsTold (TellsEntry s feeds) (λ k. entry_text (k + 1)) before entry
entry_told s feeds before entry next low fits sorted place rest left =
    rule_stands IsEntryLine (λ said. entry_text said.number said.entry) (IsNextEntry s feeds before) kind.Entry (λ said. said.entry) (numbered_next before entry) place rest
    (entry_line (length before + 1) entry low fits sorted) next left

pub note_told : (history : List Entry) (before : List Note) (note : Note) → IsNextNote history before note → FitsNote note → IsTold (TellsNote history) (λ k. note_text) before note
note_told history before note next fits place rest left =
    rule_stands IsNoteLine note_text (IsNextNote history before) kind.Board (λ n. n) note place rest (note_line note fits) next left

pub time_told : (net : Net) (rows : RowsValue) (before : List ℕ) (t : ℕ) → IsNextTime net rows before (timed_next net before t) → (event_at net (length before)).id.0 ≤ largest_id → t ≤ largest_cost →
    IsTold (TellsTime net rows) (timed_text net) before t
time_told net rows before t next id time place rest left =
    rule_stands IsTimeLine (λ said. joined (decimal said.event ∷ codes "; " ∷ decimal said.time ∷ line_end ∷ [])) (IsNextTime net rows before) kind.Time (λ said. said.time) (timed_next net before t) place rest
    (time_line (timed_next net before t) id time) next left

-- ---- logs

-- the log stands in print, and memory holds it
pub record IsPrintedLog (version : ℕ) (log : FeedLog) : Type 0 where
  pub fits : FitsLog log
  pub spelled : IsSpelledLog log
  pub known : KnowsLog version log
  pub held : IsHeldLog log

items_printed : (version : ℕ) (log : FeedLog) → IsPrintedLog version log → Each (λ before x. IsPrinted version x) [] log.items
items_printed version log printed =
    each_of_splits (λ before x. IsPrinted version x) log.items
    (λ before x later e. record {
      fits = all_there FitsItem before x later (subst (All FitsItem) e printed.fits);
      spelled = all_there IsSpelledItem before x later (subst (All IsSpelledItem) e printed.spelled);
      known = all_there (KnowsItem version) before x later (subst (All (KnowsItem version)) e printed.known);
      held = all_there IsHeldItem before x later (subst (All IsHeldItem) e printed.held.items);
    })
    [] log.items refl

pub log_told : (s : Setting) (history : List Entry) (before : List FeedLog) (log : FeedLog) → IsTrueBehind s history before log → IsPrintedLog s.version log → length before + 1 ≤ largest_id →
    IsTold (TellsLog s history) (λ k. log_text s.version (k + 1)) before log
log_told s history before log is printed low place rest left =
    let n : ℕ = length before + 1 in
    let items : List LogItem = log.items in
    let stop : List ℕ = stop_text log.stop ++ rest in
    let at : place.left ≡ feed_text n (length items) ++ (flat_map (item_text s.version) items ++ stop) = left ∙ log_same s.version n items log.stop rest in
    let each = each_both (IsNextItem s history n) (λ held x. IsPrinted s.version x) (IsTold (TellsItem s history n) (λ k. item_text s.version)) (λ held x next p. item_told s history n held x next p)
    [] items (items_next s history n [] items is.answers is.in_order) (items_printed s.version log printed) in
    let opening : LogOpening = record { feed = n; items = length items } in
    let size : length items ≤ largest_cost = let few = printed.held.size in omega arith in
    then_stands (Rules IsOpeningLine (λ o. o.feed ≡ n) kind.Form (λ o. o.items)) _ (length items) log place (flat_map (item_text s.version) items ++ stop) rest
    (rule_stands IsOpeningLine (λ o. feed_text o.feed o.items) (λ o. o.feed ≡ n) kind.Form (λ o. o.items) opening place (flat_map (item_text s.version) items ++ stop)
    (opening_line opening (omega arith) size) refl at)
    (λ p e. then_stands (Times (length items) (TellsItem s history n) []) _ items log p stop rest
    (all_stand (TellsItem s history n) (λ k. item_text s.version) [] items p stop each (e ∙ ap (λ xs. xs ++ stop) (sym (same_each (item_text s.version) 0 items))))
    (λ q f. then_stands (Reads IsStopLine) (λ st. Gives (record { items = items; stop = st })) log.stop log q rest rest (line_stands IsStopLine stop_text log.stop q rest (stop_line log.stop) f)
    (λ w g. record { next = w; left = g; told = (refl, refl) })))
