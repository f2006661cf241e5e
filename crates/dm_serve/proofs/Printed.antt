-- The text of a run at the end of a day.
use Rattle.std.proofs.Common.{◌≡◌, ℕ, ◌+◌, ◌≤◌, inr, Bool, List, [], ◌∷◌, ◌++◌, length, map, get_or, Option, Some, refl, sym, ap, subst, ◌∙◌, arith, slice_get, All}
use Rattle.std.specs.Prelude.{count_by}
use Rattle.std.proofs.lemmas.List.{length-map}
use Rattle.std.proofs.lemmas.Option.{get_or_from_slice_get, slice_get-get_or, slice_get_within}
use Rattle.dm_base.specs.declared.limits.TheConstants.{FEEDS}
use Rattle.dm_network.specs.Net.{Net}
use Rattle.dm_publish.specs.Value.{Published, published}
use Rattle.dm_display.specs.Displays.{shown_of}
use Rattle.dm_rows.specs.History.{rows_at}
use Rattle.dm_rows.specs.Rows.{RowsValue}
use Rattle.dm_rows.specs.Cost.{cost_of}
use Rattle.dm_rows.specs.Timetable.{IsLeast}
use Rattle.dm_cert.specs.declared.notes.Note.{Note}
use Rattle.dm_cert.specs.declared.replies.FeedLog.{FeedLog}
use Rattle.dm_cert.specs.declared.replies.LogItem.{LogItem}
use Rattle.dm_cert.specs.Answers.{Setting}
use Rattle.dm_cert.specs.Logs.{AreTrueLogs, IsTrueLog, all_items as logged, names}
use Rattle.dm_cert.specs.RunTexts.{FitsRun, IsSpelledLog, IsSpelledRun, run_text}
use Rattle.dm_feed.specs.Lines.{HasSortedChoice}
use Rattle.dm_cert.specs.Runs.{AreTrueNotes, IsTextOf, IsTrueRun}
use Rattle.dm_cert.proofs.SortedEntries.{true_logs_have_sorted_entries}
use Rattle.dm_rounds.proofs.Places.{mapped_at}
use Rattle.dm_store.specs.declared.store.Store.{Ghosts as StoreFacts}
use Rattle.dm_store.specs.Calls.{LeavesOnly}
use Rattle.dm_store.specs.declared.journal.Journal.{Journal}
use Rattle.dm_book.specs.Books.{Book, IsFrontBook, IsSafe, log_of}
use Rattle.dm_table.specs.Value.{IsTable, TableValue}
use Rattle.dm_table_desk.specs.Tables.{setting_of}
use Rattle.dm_tail.specs.declared.tail.Tail.{Tail}
use Rattle.dm_tail.specs.declared.watched.Watched.{Watched}
use Rattle.dm_watch.specs.Rounds.{HasNoneLeft, desk_in}
use Rattle.dm_watch.specs.Settled.{HaveSettled, all_items}
use Rattle.dm_watch.specs.declared.round.Watch.{Watch}
use Rattle.dm_watch.proofs.Booked.{true_book}
use Rattle.dm_tail.specs.Sources.{AnswersWhole}
use Rattle.dm_tail.proofs.Sources.{answers_whole}
use Rattle.dm_serve.specs.Served.{GoesOnFrom, IsDayOf}
use Rattle.dm_serve.specs.Inside.Stages.{HasGone, HasGoneSince, IsGoing, log_in, tail_in}
use Rattle.dm_store_text.specs.Written.{run_in}
use Rattle.dm_restore.proofs.Known.{logs_known}

-- ---- logs with their stops

items_in : {T : Type 0} (feeds : List (Watched T)) → map (λ (log : FeedLog). log.items) (map log_in feeds) ≡ map all_items feeds
items_in [] = refl
items_in (w ∷ feeds) = ap (λ (l : List (List LogItem)). w.log.items ∷ l) (items_in feeds)

same_items : {T : Type 0} (feeds : List (Watched T)) → logged (map log_in feeds) ≡ logged (map log_of (map all_items feeds))
same_items [] = refl
same_items (w ∷ feeds) = ap (λ (l : List LogItem). w.log.items ++ l) (same_items feeds)

some_same : {X : Type 0} {x y : X} → Some x ≡ Some y → x ≡ y
some_same e = cc

module _ {T : Type 0} (given : T → Option (List ℕ)) (s : Setting) (n : ℕ) (watch : Watch T) (going : IsGoing given s n watch) (notes : List Note) where
  abbrev table : TableValue
  table = watch.desk.table

  abbrev logs : List FeedLog
  logs = map log_in watch.feeds.items

  pub spelled_logs : All IsSpelledLog logs
  spelled_logs = λ place d low.
      let at = mapped_at log_in watch.feeds.items place (get_or logs place d) (slice_get-get_or logs place d low) in
      subst IsSpelledLog (sym at.2) (going.watching.each place at.0 at.1).fed.spelled

  true_logs : AreTrueLogs (setting_of watch.desk.plans table) table.history logs
  true_logs =
      let book = true_book given (desk_in watch) watch.feeds.items refl going.watching in
      record {
        each = λ place log e.
            let at = mapped_at log_in watch.feeds.items place log e in
            let fed = (going.watching.each place at.0 at.1).fed in
            subst (λ (l : FeedLog). IsTrueLog (setting_of watch.desk.plans table) table.history place l.items) (sym at.2) (record { answers = fed.answers; in_order = fed.in_order });
        once = λ k some low. ap (count_by (names k)) (same_items watch.feeds.items) ∙ book.logs.once k some low;
      }

  pub sorted_entries : All (λ entry. HasSortedChoice entry.message) table.history
  sorted_entries = true_logs_have_sorted_entries (setting_of watch.desk.plans table) table.history logs true_logs spelled_logs

  spelled : IsTable table → IsSpelledRun (run_in table logs notes)
  spelled is = record {
    history = sorted_entries;
    logs = spelled_logs;
    times = is.least.meets.size;
  }

  true_run : IsTable table → AreTrueNotes (length table.history) notes → 1 ≤ n → n ≤ FEEDS → IsTrueRun 2 watch.desk.plans table.start (run_in table logs notes)
  true_run is noted some few = record {
    some_feed = omega (arith, some, going.as_many, length-map watch.feeds.items log_in);
    few_feeds = omega (arith, few, going.as_many, length-map watch.feeds.items log_in);
    legal = going.watching.legal;
    logs = true_logs;
    notes = noted;
    least = subst (λ (x : RowsValue). IsLeast table.network x table.times) is.replayed is.least;
    cost = ap (λ (x : RowsValue). cost_of table.network x table.times table.penalty) is.replayed;
  }

  answers_all : All HasNoneLeft watch.feeds.items → (place : ℕ) (log : FeedLog) (tail : Tail T) → slice_get logs place ≡ Some log → slice_get (map tail_in watch.feeds.items) place ≡ Some tail
      → AnswersWhole (given tail.feed) log.items
  answers_all none_left place log tail l t =
      let one = mapped_at log_in watch.feeds.items place log l in
      let other = mapped_at tail_in watch.feeds.items place tail t in
      let same : one.0 ≡ other.0 = some_same (sym one.1 ∙ other.1) in
      let none = none_left place one.0 (slice_get_within watch.feeds.items place one.0 one.1) in
      let ended : HasNoneLeft one.0 = subst HasNoneLeft (get_or_from_slice_get watch.feeds.items place one.0 one.0 one.1) none in
      let feed : one.0.tail ≡ tail = ap tail_in same ∙ sym other.2 in
      subst (λ (x : FeedLog). AnswersWhole (given tail.feed) x.items) (sym one.2)
      (subst (λ (x : Tail T). AnswersWhole (given x.feed) one.0.log.items) feed
      (answers_whole given (desk_in watch) (place + 1) one.0 ended (going.watching.each place one.0 one.1)))

  module _ {S : Type 0} (facts : StoreFacts S)
      (up : Net → Published → List Note → Type 0) (old new : Journal S) (tails : List (Tail T)) where
    goes_on : (first : Book) → HasGone facts s first watch old.store new → GoesOnFrom facts s first (run_in table logs notes) old new
    goes_on first gone = record {
      grows = subst (λ (l : List (List LogItem)). IsFrontBook first (record { history = table.history; logs = l })) (sym (items_in watch.feeds.items)) gone.grows;
      settled = subst (λ (l : List (List LogItem)). HaveSettled facts s l new) (sym (items_in watch.feeds.items)) gone.settled;
      leaves =
          subst (λ (l : List (List LogItem)). LeavesOnly facts.moment facts.left_since old.store new.store (IsSafe s first (record { history = table.history; logs = l })))
          (sym (items_in watch.feeds.items)) gone.leaves;
    }

    pub is_day : IsTable table → FitsRun (run_in table logs notes) → AreTrueNotes (length table.history) notes → 1 ≤ n → n ≤ FEEDS → up table.network (shown_of table) notes → tails ≡ map tail_in watch.feeds.items → All HasNoneLeft watch.feeds.items
        → HasGoneSince facts s n watch old.store new → IsDayOf facts given up s n tails old new (run_text 2 (run_in table logs notes))
    is_day is fits noted some few boards are none_left gone = record {
      run = run_in table logs notes;
      net = ap (λ (x : Setting). x.net) going.setting;
      penalty = ap (λ (x : Setting). x.penalty) going.setting;
      is_text = subst (λ (x : Setting). IsTextOf 2 x.plans x.start (run_in table logs notes) (run_text 2 (run_in table logs notes))) going.setting
          (record { is_version = inr refl; is_true = true_run is noted some few; fits = fits; is_spelled = spelled is; known = logs_known logs; spelled = refl });
      boards = subst (λ (f : List Bool). up table.network (published table.times f) notes)
          (ap (λ (r : RowsValue). r.cancelled) (is.replayed ∙ ap (λ (x : Setting). rows_at x.net x.start table.history (length table.history)) going.setting)) boards;
      as_many = length-map watch.feeds.items log_in ∙ going.as_many;
      as_many_tails = ap length are ∙ (length-map watch.feeds.items tail_in ∙ going.as_many);
      answers = λ place log tail l t. answers_all none_left place log tail l (subst (λ (x : List (Tail T)). slice_get x place ≡ Some tail) are t);
      goes_on = λ contents first t. goes_on first (gone contents first t);
    }
