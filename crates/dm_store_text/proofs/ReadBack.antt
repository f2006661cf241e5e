-- The text of a run that was read back.
use Rattle.std.proofs.Common.{◌≡◌, ℕ, ◌≤◌, List, [], length, map, None, inr, refl, sym, ap, subst, arith, All}
use Rattle.std.proofs.lemmas.List.Elements.{All-nil}
use Rattle.std.proofs.lemmas.Option.{none-some}
use Rattle.dm_rows.specs.Rows.{RowsValue}
use Rattle.dm_rows.specs.Cost.{cost_of}
use Rattle.dm_rows.specs.Timetable.{IsLeast}
use Rattle.dm_cert.specs.declared.replies.FeedLog.{FeedLog}
use Rattle.dm_cert.specs.Answers.{Setting}
use Rattle.dm_cert.specs.Logs.{AreTrueLogs}
use Rattle.dm_cert.specs.RunTexts.{FitsRun, IsSpelledLog, IsSpelledRun, run_text}
use Rattle.dm_cert.specs.Runs.{AreTrueNotes, IsTextOf, IsTrueNote, IsTrueRun}
use Rattle.dm_cert.proofs.SortedEntries.{true_logs_have_sorted_entries}
use Rattle.dm_store.specs.Blocks.{Stands, refusal}
use Rattle.dm_table.specs.Value.{IsTable, TableValue}
use Rattle.dm_table_desk.specs.Tables.{setting_of}
use Rattle.dm_book.specs.Books.{Book, IsTrueBook, log_of}
use Rattle.dm_restore.specs.Restoring.{IsRestored}
use Rattle.dm_store_text.specs.Texts.{IsTextIn, items_of}
use Rattle.dm_store_text.specs.Written.{run_in}
use Rattle.dm_restore.proofs.Known.{logs_known}

no_notes : (entries : ℕ) → AreTrueNotes entries []
no_notes entries = record {
  few = omega arith;
  each = All-nil (IsTrueNote entries);
  once = λ i j one other at there. absurd (none-some one at);
  in_order = λ i j one other at there le. absurd (none-some one at);
}

abbrev book_beside : TableValue → List FeedLog → Book
book_beside table logs = record { history = table.history; logs = items_of logs }

module _ (s : Setting) (feeds : ℕ) (plans : ℕ) (table : TableValue) (logs : List FeedLog) (same : setting_of plans table ≡ s) (is : IsTable table) where
  module _ (some : 1 ≤ feeds) (few : feeds ≤ 64) (as_many : length logs ≡ feeds) (go_on : logs ≡ map log_of (items_of logs)) (book : IsTrueBook s (book_beside table logs)) where
    true_logs : AreTrueLogs (setting_of plans table) table.history logs
    true_logs =
        subst (λ (ls : List FeedLog). AreTrueLogs (setting_of plans table) table.history ls) (sym go_on)
        (subst (λ (t : Setting). AreTrueLogs t table.history (map log_of (items_of logs))) (sym same) book.logs)

    pub spelled : All IsSpelledLog logs → IsSpelledRun (run_in table logs [])
    spelled all = record {
      history = true_logs_have_sorted_entries (setting_of plans table) table.history logs true_logs all;
      logs = all;
      times = is.least.meets.size;
    }

    true_run : IsTrueRun 2 plans table.start (run_in table logs [])
    true_run = record {
      some_feed = omega (arith, some, as_many);
      few_feeds = omega (arith, few, as_many);
      legal = is.legal;
      logs = true_logs;
      notes = no_notes (length table.history);
      least = subst (λ (x : RowsValue). IsLeast table.network x table.times) is.replayed is.least;
      cost = ap (λ (x : RowsValue). cost_of table.network x table.times table.penalty) is.replayed;
    }

    pub text_in : (bytes : List ℕ) → FitsRun (run_in table logs []) → All IsSpelledLog logs → ((contents : List (List ℕ)) → Stands contents bytes → IsRestored s feeds contents (book_beside table logs))
        → ((contents : List (List ℕ)) (stands : Stands contents bytes) → refusal contents stands.end ≡ None) → IsTextIn s feeds bytes (run_text 2 (run_in table logs []))
    text_in bytes fits all restored whole = record {
      run = run_in table logs [];
      net = ap (λ (t : Setting). t.net) same;
      penalty = ap (λ (t : Setting). t.penalty) same;
      notes = refl;
      go_on = go_on;
      restored = restored;
      whole = whole;
      is_text = subst (λ (t : Setting). IsTextOf 2 t.plans t.start (run_in table logs []) (run_text 2 (run_in table logs []))) same
          (record { is_version = inr refl; is_true = true_run; fits = fits; is_spelled = spelled all; known = logs_known logs; spelled = refl });
    }
