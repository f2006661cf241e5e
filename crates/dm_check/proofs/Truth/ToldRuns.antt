-- The run that is told of a good text is true, and stands in print.
use Rattle.std.proofs.Common.{◌≡◌, ℕ, zero, suc, ◌+◌, ◌<◌, ◌≤◌, List, [], ◌∷◌, ◌++◌, length, take, fold, get_or, Some, Ok, All, refl, sym, ap, subst, ◌∙◌, arith, length-append, slice_get}
use Rattle.std.proofs.Math.Seq.{take-length}
use Rattle.std.proofs.lemmas.List.{ext_get_or, length-take-le}
use Rattle.std.proofs.lemmas.List.Elements.{All-nil, All-cons, All-head, All-tail}
use Rattle.std.proofs.lemmas.Option.{slice_get_within, slice_get-get_or, get_or_from_slice_get}
use Rattle.dm_base.specs.declared.limits.TheConstants.{ENTRIES, FEEDS, BOARDS}
use Rattle.dm_text.specs.Places.{Place}
use Rattle.dm_text.specs.Judging.{Times}
use Rattle.dm_network.specs.Net.{Net, IsWithinLimits}
use Rattle.dm_network.specs.Start.{IsNetwork}
use Rattle.dm_rows.specs.declared.messages.Entry.{Entry}
use Rattle.dm_rows.specs.declared.messages.Refusal.{Refusal}
use Rattle.dm_rows.specs.Rows.{RowsValue, RowsAreWithinLimits}
use Rattle.dm_rows.specs.Resolve.{after}
use Rattle.dm_rows.specs.Refuse.{Refuses}
use Rattle.dm_rows.specs.History.{IsLegal}
use Rattle.dm_rows.specs.Timetable.{IsLeast, time_at}
use Rattle.dm_rows.specs.Cost.{cost_of}
use Rattle.dm_feed.specs.Lines.{HasSortedChoice}
use Rattle.dm_feed.specs.Parts.{largest_value}
use Rattle.dm_check_rows.proofs.Telling.{one_least}
use Rattle.dm_cert.specs.declared.notes.Note.{Note}
use Rattle.dm_cert.specs.declared.replies.LogItem.{LogItem}
use Rattle.dm_cert.specs.declared.replies.FeedLog.{FeedLog}
use Rattle.dm_cert.specs.Answers.{Setting, rows_after}
use Rattle.dm_cert.specs.RunTexts.{Run, run_text, FitsEntry, FitsItem, FitsLog, FitsNote, IsSpelledItem, IsSpelledLog, KnowsItem, KnowsLog}
use Rattle.dm_cert.specs.Runs.{IsTrueNote, AreTrueNotes}
use Rattle.dm_check.specs.FalseRecords.{IsNextItem, IsNextNote, TellsEntry, TellsItem, TellsLog, TellsNote, TellsTime, entry_before}
use Rattle.dm_check.proofs.Spelled.{good_is_spelled_so}
use Rattle.dm_check.specs.Truth.{GoodTextsAreTrue}
use Rattle.dm_records.proofs.Each.{Each, each_at, each_weaker, all_of_each}
use Rattle.dm_check.proofs.Truth.Limits.{least_low, legal_within}
use Rattle.dm_records.proofs.Named.{IsTrueBehind}
use Rattle.dm_check.specs.Inside.Sound.{IsSound}
use Rattle.dm_check.proofs.Truth.OnceNamed.{true_logs}
use Rattle.dm_check.proofs.Truth.ToldEach.{told_each, Says}
use Rattle.dm_check.proofs.Truth.ToldItems.{IsSoundItem, item_sound}
use Rattle.dm_check.proofs.Truth.Truths.{last_entry, next_true, next_in_order}

-- ---- entries

-- nothing refuses the entry in the rows after those before it, and its numbers are ones that types hold
record IsSoundEntry (s : Setting) (before : List Entry) (entry : Entry) : Type 0 where
  accepted : (r : Refusal) → Refuses s.net (rows_after s before (length before)) (length before) entry.message r → ⊥
  fits : FitsEntry entry
  sorted : HasSortedChoice entry.message

entry_sound : (s : Setting) (feeds : ℕ) → feeds ≤ FEEDS → Says (TellsEntry s feeds) (IsSoundEntry s)
entry_sound s feeds few before place entry next told =
    let said = told.value in
    let rule = told.then.0 in
    let line = told.told.spelled in
    subst (IsSoundEntry s before) (sym told.then.1)
    (record { accepted = rule.accepted; fits = ((let low = rule.feed in omega (arith, low, few)), line.of_line, line.message); sorted = line.sorted })

legal : (s : Setting) (history : List Entry) → length history ≤ ENTRIES → Each (IsSoundEntry s) [] history → IsLegal s.net s.start history
legal s history few each = record {
  size = few;
  accepted = λ n entry r at refuses.
      let low = slice_get_within history n entry at in
      let size : length (take n history) ≡ n = length-take-le n history (omega arith) in
      let same : rows_after s (take n history) (length (take n history)) ≡ rows_after s history n =
      ap (λ es. fold (λ rows (e : Entry). after s.net rows e.message) s.start es) (take-length (take n history)) in
      (each_at (IsSoundEntry s) [] history each n entry at).accepted r
      (subst (λ (m : ℕ). Refuses s.net (rows_after s (take n history) (length (take n history))) m entry.message r) (sym size)
      (subst (λ (rows : RowsValue). Refuses s.net rows n entry.message r) (sym same) refuses));
}

-- the history that is told over a network within the limits, from rows within them
pub sound_told : (s : Setting) (history : List Entry) (feeds count : ℕ) (place next : Place) → IsNetwork s.net → IsWithinLimits s.net → RowsAreWithinLimits s.start → feeds ≤ FEEDS → count ≤ ENTRIES →
    Times count (TellsEntry s feeds) [] place (Ok (history, next)) → IsSound s history
sound_told s history feeds count place next network limits start few low told =
    let each = told_each (TellsEntry s feeds) (IsSoundEntry s) (entry_sound s feeds few) count history place next told in
    record { network = network; limits = limits; start = start; legal = legal s history (let size = each.count in omega (arith, size, low)) each.each }

-- ---- logs

-- the log is true, its numbers are ones that types hold, and its items have spellings in words of the version
record IsSoundLog (s : Setting) (history : List Entry) (before : List FeedLog) (log : FeedLog) : Type 0 where
  is_true : IsTrueBehind s history before log
  fits : FitsLog log
  spelled : IsSpelledLog log
  known : KnowsLog s.version log

log_sound : (s : Setting) (history : List Entry) → IsSound s history → Says (TellsLog s history) (IsSoundLog s history)
log_sound s history sound before place log next told =
    let feed : ℕ = length before + 1 in
    let items : List LogItem = told.then.value in
    let all = told_each (TellsItem s history feed) (IsSoundItem s history feed) (λ held p x n t. item_sound s history sound feed held p x n t) told.value items told.behind told.then.behind told.then.told in
    let next = each_weaker (IsSoundItem s history feed) (IsNextItem s history feed) (λ held x sound_item. sound_item.next) [] items all.each in
    let log_is = told.then.then.then.0 in
    subst (IsSoundLog s history before) (sym log_is)
    (record {
      is_true = record { answers = next_true s history feed [] items next; in_order = next_in_order s history feed [] items next };
      fits = all_of_each (IsSoundItem s history feed) FitsItem (λ held x sound_item. sound_item.fits) [] items all.each;
      spelled = all_of_each (IsSoundItem s history feed) IsSpelledItem (λ held x sound_item. sound_item.spelled) [] items all.each;
      known = all_of_each (IsSoundItem s history feed) (KnowsItem s.version) (λ held x sound_item. sound_item.known) [] items all.each;
    })

-- ---- notes

note_next : (history : List Entry) → Says (TellsNote history) (IsNextNote history)
note_next history before place note next told = subst (IsNextNote history before) (sym told.then.1) told.then.0

all_front : {V : Type 0} (P : V → Type 0) (xs ys : List V) → All P (xs ++ ys) → All P xs
all_front P [] ys all = All-nil P
all_front P (x ∷ xs) ys all = All-cons P x xs (All-head P x (xs ++ ys) all) (all_front P xs ys (All-tail P x (xs ++ ys) all))

all_last : {V : Type 0} (P : V → Type 0) (xs : List V) (x : V) → All P (xs ++ x ∷ []) → P x
all_last P [] x all = All-head P x [] all
all_last P (y ∷ xs) x all = all_last P xs x (All-tail P y (xs ++ x ∷ []) all)

same_note : (x v : Note) → Some x ≡ Some v → x ≡ v
same_note x v e = cc

module _ (history : List Entry) where
  -- no note before it names its board
  abbrev IsApart : List Note → Note → Type 0
  IsApart before note = All (λ (o : Note). o.board ≡ note.board → ⊥) before

  apart : (before tail : List Note) → Each (IsNextNote history) before tail → (k : ℕ) (v : Note) → slice_get tail k ≡ Some v → IsApart before v
  apart before tail each k v at = all_front (λ (o : Note). o.board ≡ v.board → ⊥) before (take k tail) (each_at (IsNextNote history) before tail each k v at).once

  rising : (before tail : List Note) → Each (IsNextNote history) before tail → (k : ℕ) (v : Note) → slice_get tail k ≡ Some v → entry_before before ≤ v.entry
  rising before [] each k v at = absurd (let low = slice_get_within [] k v at in omega arith)
  rising before (x ∷ tail) each zero v at = subst (λ (n : Note). entry_before before ≤ n.entry) (same_note x v at) each.0.in_order
  rising before (x ∷ tail) each (suc k) v at =
      let more = rising (before ++ x ∷ []) tail each.1 k v at in
      let here = each.0.in_order in
      omega (arith, last_entry before x, more, here)

  once_noted : (before tail : List Note) → Each (IsNextNote history) before tail → (i j : ℕ) (one other : Note) → slice_get tail i ≡ Some one → slice_get tail j ≡ Some other → one.board ≡ other.board → i ≡ j
  once_noted before [] each i j one other at there same = absurd (let low = slice_get_within [] i one at in omega arith)
  once_noted before (x ∷ tail) each zero zero one other at there same = refl
  once_noted before (x ∷ tail) each zero (suc j) one other at there same =
      absurd (all_last (λ (o : Note). o.board ≡ other.board → ⊥) before x (apart (before ++ x ∷ []) tail each.1 j other there) (ap (λ (n : Note). n.board) (same_note x one at) ∙ same))
  once_noted before (x ∷ tail) each (suc i) zero one other at there same =
      absurd (all_last (λ (o : Note). o.board ≡ one.board → ⊥) before x (apart (before ++ x ∷ []) tail each.1 i one at) (ap (λ (n : Note). n.board) (same_note x other there) ∙ sym same))
  once_noted before (x ∷ tail) each (suc i) (suc j) one other at there same = ap suc (once_noted (before ++ x ∷ []) tail each.1 i j one other at there same)

  noted_in_order : (before tail : List Note) → Each (IsNextNote history) before tail → (i j : ℕ) (one other : Note) → slice_get tail i ≡ Some one → slice_get tail j ≡ Some other → i ≤ j → one.entry ≤ other.entry
  noted_in_order before [] each i j one other at there le = absurd (let low = slice_get_within [] i one at in omega arith)
  noted_in_order before (x ∷ tail) each zero zero one other at there le =
      let same : one.entry ≡ other.entry = ap (λ (n : Note). n.entry) (same_note one other (sym at ∙ there)) in
      omega (arith, same)
  noted_in_order before (x ∷ tail) each zero (suc j) one other at there le =
      let same : x.entry ≡ one.entry = ap (λ (n : Note). n.entry) (same_note x one at) in
      let more = rising (before ++ x ∷ []) tail each.1 j other there in
      omega (arith, last_entry before x, same, more)
  noted_in_order before (x ∷ tail) each (suc i) zero one other at there le = absurd (omega (arith, le))
  noted_in_order before (x ∷ tail) each (suc i) (suc j) one other at there le = noted_in_order (before ++ x ∷ []) tail each.1 i j one other at there (omega (arith, le))

  notes_true : (notes : List Note) → length notes ≤ BOARDS → Each (IsNextNote history) [] notes → AreTrueNotes (length history) notes
  notes_true notes few each = record {
    few = few;
    each = all_of_each (IsNextNote history) (IsTrueNote (length history)) (λ before note next. next.is_true) [] notes each;
    once = once_noted [] notes each;
    in_order = noted_in_order [] notes each;
  }

  note_fits : length history ≤ ENTRIES → (note : Note) → IsTrueNote (length history) note → FitsNote note
  note_fits few note is = ((let low = is.few_boards in omega (arith, low)), is.stop, (let low = is.entry in omega (arith, low, few)))

-- ---- times and the cost

record IsTimeThere (net : Net) (rows : RowsValue) (before : List ℕ) (t : ℕ) : Type 0 where
  times : List ℕ
  least : IsLeast net rows times
  is_time : t ≡ time_at times (length before)

time_there : (net : Net) (rows : RowsValue) → Says (TellsTime net rows) (IsTimeThere net rows)
time_there net rows before place t next told = record { times = told.then.0.times; least = told.then.0.least; is_time = told.then.1 ∙ told.then.0.time }

module _ (net : Net) (rows : RowsValue) (least_times : List ℕ) (least : IsLeast net rows least_times) where
  same_times : (before tail : List ℕ) → Each (IsTimeThere net rows) before tail → (k : ℕ) → k < length tail → get_or tail k 0 ≡ time_at least_times (length before + k)
  same_times before [] each k below = absurd (omega arith)
  same_times before (x ∷ tail) each zero below =
      each.0.is_time ∙ (ap (λ ts. time_at ts (length before)) (one_least net rows each.0.times least_times each.0.least least) ∙ ap (time_at least_times) (omega arith))
  same_times before (x ∷ tail) each (suc k) below =
      same_times (before ++ x ∷ []) tail each.1 k (omega arith) ∙ ap (time_at least_times) (let size = length-append before (x ∷ []) in omega (arith, size))

  times_least : (times : List ℕ) → length times ≡ length net.events → Each (IsTimeThere net rows) [] times → times ≡ least_times
  times_least times size each =
      ext_get_or 0 times least_times (size ∙ sym least.meets.size) (λ k below. same_times [] times each k below ∙ ap (time_at least_times) (omega arith))

-- a value at a place that there is stands there whatever stands past the end
same_default : (xs : List ℕ) (k d other : ℕ) → k < length xs → get_or xs k d ≡ get_or xs k other
same_default xs k d other below = get_or_from_slice_get xs k (get_or xs k other) d (slice_get-get_or xs k other below)

-- ---- the whole

pub good_texts_are_true : GoodTextsAreTrue
good_texts_are_true net start penalty most_plans text entries plans network limits within low good =
    let version : ℕ = good.told.value in
    let s : Setting = record { net = net; start = start; penalty = penalty; plans = most_plans; version = version } in
    let feeds_on = good.told.then.then in
    let entries_on = feeds_on.then in
    let history_on = entries_on.then in
    let logs_on = history_on.then in
    let boards_on = logs_on.then in
    let notes_on = boards_on.then in
    let times_on = notes_on.then.then in
    let cost_on = times_on.then in
    let history : List Entry = history_on.value in
    let logs : List FeedLog = logs_on.value in
    let notes : List Note = notes_on.value in
    let times : List ℕ = times_on.value in
    let cost : ℕ = cost_on.value in
    let rows : RowsValue = rows_after s history (length history) in
    let run : Run = record { net = net; penalty = penalty; history = history; logs = logs; notes = notes; times = times; cost = cost } in
    let few_feeds : feeds_on.value ≤ FEEDS = (let rule = feeds_on.told.then.0 in let same = feeds_on.told.then.1 in let top = rule.1 in omega (arith, top, same)) in
    let some_feeds : 1 ≤ feeds_on.value = (let rule = feeds_on.told.then.0 in let same = feeds_on.told.then.1 in let one = rule.0 in omega (arith, one, same)) in
    let few_entries : entries_on.value ≤ ENTRIES = (let top = entries_on.told.then.0 in let same = entries_on.told.then.1 in omega (arith, top, same)) in
    let few_notes : boards_on.value ≤ BOARDS =
    (let top = boards_on.told.told.then.0 in let same = boards_on.told.told.then.1 in let more = boards_on.told.then.1 in omega (arith, top, same, more)) in
    let each_entry = told_each (TellsEntry s feeds_on.value) (IsSoundEntry s) (entry_sound s feeds_on.value few_feeds) entries_on.value history entries_on.behind history_on.behind history_on.told in
    let entries_few : length history ≤ ENTRIES = (let count = each_entry.count in omega (arith, count, few_entries)) in
    let is_legal : IsLegal net start history = legal s history entries_few each_entry.each in
    let sound : IsSound s history = record { network = network; limits = limits; start = within; legal = is_legal } in
    let each_log = told_each (TellsLog s history) (IsSoundLog s history) (log_sound s history sound) feeds_on.value logs history_on.behind logs_on.behind logs_on.told in
    let logs_true = each_weaker (IsSoundLog s history) (IsTrueBehind s history) (λ before log sound_log. sound_log.is_true) [] logs each_log.each in
    let each_note = told_each (TellsNote history) (IsNextNote history) (note_next history) boards_on.value notes boards_on.behind notes_on.behind notes_on.told in
    let each_time = told_each (TellsTime net rows) (IsTimeThere net rows) (time_there net rows) (length net.events) times notes_on.then.behind times_on.behind times_on.told in
    let costs = cost_on.told.then.0 in
    let same = times_least net rows costs.times costs.least times each_time.count each_time.each in
    let least : IsLeast net rows times = subst (IsLeast net rows) (sym same) costs.least in
    let rows_low : RowsAreWithinLimits rows = legal_within net start history is_legal within (length history) (omega arith) in
    let notes_are = notes_true history notes (let count = each_note.count in omega (arith, count, few_notes)) each_note.each in
    record {
      version = version;
      history = history;
      logs = logs;
      notes = notes;
      times = times;
      cost = cost;
      is_text = record {
        is_version = good.told.told.spelled.is_version;
        is_true = record {
          some_feed = (let count = each_log.count in omega (arith, count, some_feeds));
          few_feeds = (let count = each_log.count in omega (arith, count, few_feeds));
          legal = is_legal;
          logs = true_logs s history logs boards_on.told.then.0 logs_true;
          notes = notes_are;
          least = least;
          cost = cost_on.told.then.1 ∙ (costs.cost ∙ ap (λ ts. cost_of net rows ts penalty) (sym same));
        };
        fits = record {
          penalty = omega (arith, low);
          history = all_of_each (IsSoundEntry s) FitsEntry (λ before entry sound_entry. sound_entry.fits) [] history each_entry.each;
          logs = all_of_each (IsSoundLog s history) FitsLog (λ before log sound_log. sound_log.fits) [] logs each_log.each;
          notes = all_of_each (IsNextNote history) FitsNote (λ before note next. note_fits history entries_few note next.is_true) [] notes each_note.each;
          times = λ k d below. subst (λ (t : ℕ). t ≤ largest_value) (same_default times k 0 d below) (least_low net rows times network limits rows_low least k);
          cost = (let bound = cost_on.told.told.spelled.fits in let is = cost_on.told.then.1 in omega (arith, bound, is));
        };
        is_spelled = record {
          history = all_of_each (IsSoundEntry s) (λ (entry : Entry). HasSortedChoice entry.message) (λ before entry sound_entry. sound_entry.sorted) [] history each_entry.each;
          logs = all_of_each (IsSoundLog s history) IsSpelledLog (λ before log sound_log. sound_log.spelled) [] logs each_log.each;
          times = each_time.count;
        };
        known = all_of_each (IsSoundLog s history) (KnowsLog version) (λ before log sound_log. sound_log.known) [] logs each_log.each;
        spelled = good_is_spelled_so net start penalty most_plans text entries plans good ∙ ap (λ (r : Run). run_text version r) cost_on.then.then.1;
      };
    }
