-- The book of a run that was read back.
use Rattle.std.proofs.Common.{◌≡◌, ◌≤◌, inl, [], arith, inr, ℕ, Bool, List, length, map, sym, subst, ◌∙◌}
use Rattle.std.specs.Prelude.{◌↔◌, IsTrue}
use Rattle.std.proofs.lemmas.Bool.{cases_Bool}
use Rattle.std.proofs.lemmas.List.{length-map}
use Rattle.dm_store.specs.Blocks.{Stands}
use Rattle.dm_store.proofs.Standing.{all_stand}
use Rattle.dm_rows.specs.declared.messages.Entry.{Entry}
use Rattle.dm_rows.specs.History.{IsLegal}
use Rattle.dm_cert.specs.declared.replies.LogItem.{LogItem}
use Rattle.dm_cert.specs.declared.replies.FeedLog.{FeedLog}
use Rattle.dm_cert.specs.Answers.{Setting}
use Rattle.dm_cert.specs.Logs.{AreTrueLogs}
use Rattle.dm_cert.specs.RunTexts.{run_text}
use Rattle.dm_check.specs.declared.verdicts.Verdict.TheVariants.{Bad}
use Rattle.dm_check.specs.FalseRecords.{IsVerdict}
use Rattle.dm_table.specs.Value.{TableValue, IsTable}
use Rattle.dm_table_desk.specs.Tables.{setting_of}
use Rattle.dm_book.specs.Books.{Book, IsTrueBook}
use Rattle.dm_book.proofs.OneBook.{books_are_one}
use Rattle.dm_book.proofs.Growing.{in_one}
use Rattle.dm_restore.specs.Restoring.{IsRestored, RefusesBook}
use Rattle.dm_restore.specs.declared.stops.RestoreStop.{RestoreStop}
use Rattle.dm_restore.specs.declared.stops.RestoreStop.TheVariants as stop
use Rattle.dm_restore.specs.Inside.Judging.{run_of, StopsJudging, HasEntered, StopsDesk}
use Rattle.dm_restore.specs.Inside.Logs.{HasLogs}
use Rattle.dm_restore.proofs.Judged.{run_in}

module _ (s : Setting) (feeds : ℕ) (contents : List (List ℕ)) (end : List ℕ) (logs : List FeedLog) (is_new : Bool) (has : HasLogs s feeds contents end logs is_new) (plans : ℕ) (table : TableValue) (is : IsTable table)
    (setting : setting_of plans table ≡ s) where
  abbrev items : List (List LogItem)
  items = map (λ (log : FeedLog). log.items) logs

  abbrev mine : Book
  mine = record { history = table.history; logs = items }

  many : length items ≡ feeds
  many = length-map logs (λ (log : FeedLog). log.items) ∙ has.as_many

  module _ (good : AreTrueLogs (setting_of plans table) table.history logs) where
    pub is_true : IsTrueBook s mine
    is_true = record {
      legal = subst (λ (t : Setting). IsLegal t.net t.start table.history) setting is.legal;
      logs =
          subst (λ (ls : List FeedLog). AreTrueLogs s table.history ls) has.go_on
          (subst (λ (t : Setting). AreTrueLogs t table.history logs) setting good);
    }

    pub is_restored : IsRestored s feeds contents mine
    is_restored = record { as_many = many; is_in = has.is_in; is_true = is_true }

    pub is_one : (book : Book) → IsRestored s feeds contents book → mine ≡ book
    is_one book b = books_are_one s mine book is_true b.is_true (in_one s contents mine book (many ∙ sym b.as_many) has.is_in b.is_in)

  -- ---- why it is refused

  module _ (entered : (history : List Entry) → IsLegal s.net s.start history → AreTrueLogs s history logs → table.history ≡ history) where
    true_logs : (history : List Entry) → IsTrueBook s (record { history = history; logs = items }) → AreTrueLogs s history logs
    true_logs history book = subst (λ (ls : List FeedLog). AreTrueLogs s history ls) (sym has.go_on) book.logs

    found : (history : List Entry) → IsTrueBook s (record { history = history; logs = items }) → table.history ≡ history
    found history book = entered history book.legal (true_logs history book)

    pub stops_judging : (file : List ℕ) (why : RestoreStop) → StopsJudging plans table logs why → RefusesBook s feeds file contents end why
    stops_judging file stop.OutOfMemory h = tt
    stops_judging file stop.Full h =
        inr (record { run = run_of table logs; logs = items; is_run = run_in s feeds contents plans table logs is setting has.as_many has.go_on has.is_in found; long = h })
    stops_judging file (stop.Bad line kind) h = record {
      run = run_of table logs;
      logs = items;
      is_run = run_in s feeds contents plans table logs is setting has.as_many has.go_on has.is_in found;
      verdict = subst (λ (t : Setting). IsVerdict t.net t.start t.penalty t.plans (run_text 2 (run_of table logs)) (Bad line kind)) setting h.verdict;
      is_false = λ history book.
          let same = found history book in
          h.untrue (subst (λ (t : Setting). AreTrueLogs t table.history logs) (sym setting) (subst (λ (l : List Entry). AreTrueLogs s l logs) (sym same) (true_logs history book)));
    }
    stops_judging file stop.Head h = absurd h
    stops_judging file (stop.Form number) h = absurd h

-- ---- a desk

pub is_stopped : (s : Setting) (logs : List FeedLog) (plans : ℕ) (table : TableValue) (why : RestoreStop) → setting_of plans table ≡ s → IsTable table → HasEntered s logs table → StopsJudging plans table logs why → StopsDesk s logs why
is_stopped s logs plans table stop.OutOfMemory setting is entered h = tt
is_stopped s logs plans table stop.Full setting is entered h = record { plans = plans; table = table; setting = setting; is_table = is; entered = entered; stops = h }
is_stopped s logs plans table stop.Head setting is entered h = absurd h
is_stopped s logs plans table (stop.Form number) setting is entered h = absurd h
is_stopped s logs plans table (stop.Bad line kind) setting is entered h = record { plans = plans; table = table; setting = setting; is_table = is; entered = entered; stops = h }

pub refuses_book : (s : Setting) (feeds : ℕ) (file : List ℕ) (contents : List (List ℕ)) (end : List ℕ) (logs : List FeedLog) (is_new : Bool) (why : RestoreStop) → HasLogs s feeds contents end logs is_new → StopsDesk s logs why → RefusesBook s feeds file contents end why
refuses_book s feeds file contents end logs is_new stop.OutOfMemory has h = tt
refuses_book s feeds file contents end logs is_new stop.Full has h = stops_judging s feeds contents end logs is_new has h.plans h.table h.is_table h.setting h.entered file stop.Full h.stops
refuses_book s feeds file contents end logs is_new stop.Head has h = absurd h.stops
refuses_book s feeds file contents end logs is_new (stop.Form number) has h = absurd h.stops
refuses_book s feeds file contents end logs is_new (stop.Bad line kind) has h = stops_judging s feeds contents end logs is_new has h.plans h.table h.is_table h.setting h.entered file (stop.Bad line kind) h.stops

-- ---- whatever the file

pub standing : (file : List ℕ) → length file ≤ 134217728 → (contents : List (List ℕ)) × Stands contents file
standing file few = all_stand (length file) file (omega arith) (omega (arith, few))

pub told_new : (s : Setting) (feeds : ℕ) (contents : List (List ℕ)) (end : List ℕ) (logs : List FeedLog) (is_new : Bool) → HasLogs s feeds contents end logs is_new → IsTrue is_new ↔ contents ≡ []
told_new s feeds contents end logs is_new has = (has.new, λ none. elim (cases_Bool is_new) [ inl is ↦ is | inr isnt ↦ absurd (has.old isnt none) ])
