-- What a true run says of each record, given those before it.
use Rattle.std.proofs.Common.{◌≡◌, ℕ, zero, suc, ◌+◌, ◌<◌, ◌≤◌, List, [], ◌∷◌, ◌++◌, length, fold, get_or, Some, All, refl, sym, ap, subst, ◌∙◌, arith, append_assoc, append-nil, length-append, slice_get}
use Rattle.std.specs.Prelude.{count_by}
use Rattle.std.proofs.Math.Seq.{get_or-append_seam, take-append_seam, take-length}
use Rattle.std.proofs.lemmas.List.Sums.{fold-append}
use Rattle.std.proofs.lemmas.Option.{slice_get-get_or}
use Rattle.dm_network.specs.Net.{Net, event_at}
use Rattle.dm_rows.specs.declared.messages.Entry.{Entry}
use Rattle.dm_rows.specs.Rows.{RowsValue}
use Rattle.dm_rows.specs.Refuse.{Refuses}
use Rattle.dm_rows.specs.Resolve.{after}
use Rattle.dm_rows.specs.History.{IsLegal}
use Rattle.dm_rows.specs.Timetable.{IsLeast, time_at}
use Rattle.dm_cert.specs.declared.notes.Note.{Note}
use Rattle.dm_cert.specs.declared.replies.LogItem.{LogItem}
use Rattle.dm_cert.specs.declared.replies.FeedLog.{FeedLog}
use Rattle.dm_cert.specs.Answers.{Setting, rows_after}
use Rattle.dm_cert.specs.Logs.{kind_of, line_of, number_after, names, all_items, AreTrueAnswers, IsInOrder, AreTrueLogs}
use Rattle.dm_cert.specs.Runs.{IsTrueNote, AreTrueNotes}
use Rattle.dm_records.specs.RunLines.{Numbered, Timed}
use Rattle.dm_check_answers.specs.Judging.{line_before, number_before}
use Rattle.dm_check.specs.FalseRecords.{IsNextEntry, IsNextItem, AreNamed, IsNextNote, IsNextTime, entry_before}
use Rattle.dm_records.proofs.Each.{Each, each_of_splits, all_there}
use Rattle.dm_records.proofs.Named.{named_somewhere, logs_behind, same_entry}

-- ---- values at their places

pub at_seam : {V : Type 0} (before : List V) (v : V) (after : List V) → slice_get (before ++ v ∷ after) (length before) ≡ Some v
at_seam before v after =
    slice_get-get_or (before ++ v ∷ after) (length before) v (omega (arith, length-append before (v ∷ after))) ∙ ap Some (get_or-append_seam before v after v)

-- ---- entries

-- the rows after the entries before one are the same, whatever stands behind them
pub rows_before : (s : Setting) (before later : List Entry) → rows_after s (before ++ later) (length before) ≡ rows_after s before (length before)
rows_before s before later =
    ap (λ es. fold (λ rows (entry : Entry). after s.net rows entry.message) s.start es) (take-append_seam before later ∙ sym (take-length before))

abbrev pub numbered_next : List Entry → Entry → Numbered
numbered_next before entry = record { number = length before + 1; entry = entry }

module _ (s : Setting) (history : List Entry) (logs : List FeedLog) (legal : IsLegal s.net s.start history) (are : AreTrueLogs s history logs) where
  next_entry : (before : List Entry) (entry : Entry) (later : List Entry) → history ≡ before ++ entry ∷ later → IsNextEntry s (length logs) before (numbered_next before entry)
  next_entry before entry later e =
      let n : ℕ = length before + 1 in
      let size : length history ≡ length before + suc (length later) = ap length e ∙ length-append before (entry ∷ later) in
      let once : count_by (names n) (all_items logs) ≡ 1 = are.once n (omega arith) (omega arith) in
      let came = named_somewhere s history n [] logs (logs_behind s history logs are) (omega arith) in
      let same = same_entry history before entry later _ e came.from.entry in
      record {
        number = refl;
        feed = (let few = came.few in let f = ap (λ (x : Entry). x.feed) same in omega arith);
        line = (let some = came.some_line in let l = ap (λ (x : Entry). x.line) same in omega arith);
        accepted = λ r refuses. legal.accepted (length before) entry r (ap (λ es. slice_get es (length before)) e ∙ at_seam before entry later)
            (subst (λ (rows : RowsValue). Refuses s.net rows (length before) entry.message r)
            (sym (ap (λ es. rows_after s es (length before)) e ∙ rows_before s before (entry ∷ later))) refuses);
      }

  pub entries_next : Each (λ before entry. IsNextEntry s (length logs) before (numbered_next before entry)) [] history
  entries_next = each_of_splits (λ before entry. IsNextEntry s (length logs) before (numbered_next before entry)) history (λ before entry later e. next_entry before entry later e) [] history refl

-- ---- items

pub line_more : (before : List LogItem) (x : LogItem) → line_before (before ++ x ∷ []) ≡ line_of x
line_more before x = fold-append (λ last (a : LogItem). line_of a) 0 before (x ∷ [])

pub number_more : (before : List LogItem) (x : LogItem) → number_before (before ++ x ∷ []) ≡ number_after (number_before before) (kind_of x)
number_more before x = fold-append (λ last (a : LogItem). number_after last (kind_of a)) 0 before (x ∷ [])

pub items_next : (s : Setting) (history : List Entry) (feed : ℕ) (before items : List LogItem) → AreTrueAnswers s history feed before items → IsInOrder (line_before before) (number_before before) items →
    Each (IsNextItem s history feed) before items
items_next s history feed before [] answers order = tt
items_next s history feed before (x ∷ items) answers order =
    let more = subst (λ (n : ℕ). IsInOrder (line_before (before ++ x ∷ [])) n items) (sym (number_more before x))
    (subst (λ (l : ℕ). IsInOrder l (number_after (number_before before) (kind_of x)) items) (sym (line_more before x)) order.2) in
    (record { line = order.0; number = order.1; is_true = answers.0 }, items_next s history feed (before ++ x ∷ []) items answers.1 more)

pub next_true : (s : Setting) (history : List Entry) (feed : ℕ) (before items : List LogItem) → Each (IsNextItem s history feed) before items → AreTrueAnswers s history feed before items
next_true s history feed before [] each = tt
next_true s history feed before (x ∷ items) each = (each.0.is_true, next_true s history feed (before ++ x ∷ []) items each.1)

pub next_in_order : (s : Setting) (history : List Entry) (feed : ℕ) (before items : List LogItem) → Each (IsNextItem s history feed) before items → IsInOrder (line_before before) (number_before before) items
next_in_order s history feed before [] each = tt
next_in_order s history feed before (x ∷ items) each = (
  each.0.line,
  each.0.number,
  subst (λ (l : ℕ). IsInOrder l (number_after (number_before before) (kind_of x)) items) (line_more before x)
      (subst (λ (m : ℕ). IsInOrder (line_before (before ++ x ∷ [])) m items) (number_more before x) (next_in_order s history feed (before ++ x ∷ []) items each.1)),
)

-- ---- boards

pub all_named : (s : Setting) (history : List Entry) (logs : List FeedLog) → AreTrueLogs s history logs → AreNamed history logs
all_named s history logs are = λ n some within. let once = are.once n some within in omega arith

pub last_entry : (before : List Note) (x : Note) → entry_before (before ++ x ∷ []) ≡ x.entry
last_entry before x = fold-append (λ last (note : Note). note.entry) 0 before (x ∷ [])

note_at : (notes before : List Note) (later : List Note) → notes ≡ before ++ later → (k : ℕ) (d : Note) → k < length before → slice_get notes k ≡ Some (get_or before k d)
note_at notes [] later e k d low = absurd (omega arith)
note_at notes (x ∷ before) later e zero d low = ap (λ ns. slice_get ns 0) e
note_at notes (x ∷ before) later e (suc k) d low = ap (λ ns. slice_get ns (suc k)) e ∙ note_at (before ++ later) before later refl k d (omega arith)

module _ (history : List Entry) (notes : List Note) (are : AreTrueNotes (length history) notes) where
  by_last : (before : List Note) (note : Note) (later front behind : List Note) → before ≡ front ++ behind → notes ≡ before ++ note ∷ later → entry_before front ≤ note.entry → entry_before before ≤ note.entry
  by_last before note later front [] is e low = subst (λ (ns : List Note). entry_before ns ≤ note.entry) (sym (is ∙ append-nil front)) low
  by_last before note later front (x ∷ behind) is e low =
      let all : notes ≡ (front ++ x ∷ []) ++ (behind ++ note ∷ later) =
      e ∙ (ap (λ ns. ns ++ note ∷ later) (is ∙ sym (append_assoc front (x ∷ []) behind)) ∙ append_assoc (front ++ x ∷ []) behind (note ∷ later)) in
      let at : slice_get notes (length front) ≡ Some x =
      ap (λ ns. slice_get ns (length front)) (all ∙ append_assoc front (x ∷ []) (behind ++ note ∷ later)) ∙ at_seam front x (behind ++ note ∷ later) in
      let there : slice_get notes (length before) ≡ Some note = ap (λ ns. slice_get ns (length before)) e ∙ at_seam before note later in
      let size : length before ≡ length front + suc (length behind) = ap length is ∙ length-append front (x ∷ behind) in
      let rise = are.in_order (length front) (length before) x note at there (omega arith) in
      by_last before note later (front ++ x ∷ []) behind (is ∙ sym (append_assoc front (x ∷ []) behind)) e (let entry = last_entry front x in omega arith)

  next_note : (before : List Note) (note : Note) (later : List Note) → notes ≡ before ++ note ∷ later → IsNextNote history before note
  next_note before note later e =
      let there : slice_get notes (length before) ≡ Some note = ap (λ ns. slice_get ns (length before)) e ∙ at_seam before note later in
      record {
        is_true = all_there (IsTrueNote (length history)) before note later (subst (All (IsTrueNote (length history))) e are.each);
        once = λ k d low same.
            let at = note_at notes before (note ∷ later) e k d low in
            let one = are.once k (length before) (get_or before k d) note at there same in
            omega arith;
        in_order = by_last before note later [] before refl e (omega arith);
      }

  pub notes_next : Each (IsNextNote history) [] notes
  notes_next = each_of_splits (IsNextNote history) notes (λ before note later e. next_note before note later e) [] notes refl

-- ---- times

abbrev pub timed_next : Net → List ℕ → ℕ → Timed
timed_next net before t = record { event = (event_at net (length before)).id.0; time = t }

pub times_next : (net : Net) (rows : RowsValue) (times : List ℕ) → IsLeast net rows times → Each (λ before t. IsNextTime net rows before (timed_next net before t)) [] times
times_next net rows times least =
    each_of_splits (λ before t. IsNextTime net rows before (timed_next net before t)) times
    (λ before t later e. record {
      event = refl;
      times = times;
      least = least;
      time = sym (ap (λ (ts : List ℕ). time_at ts (length before)) e ∙ get_or-append_seam before t later 0);
    })
    [] times refl
