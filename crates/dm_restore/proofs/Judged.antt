-- What a verdict on the text of a run says of its logs.
use Rattle.std.proofs.Common.{◌≡◌, ◌⊎◌, inr, ℕ, ◌≤◌, List, [], ◌++◌, length, map, refl, sym, ap, subst, ◌∙◌, arith, All}
use Rattle.std.proofs.lemmas.List.{length-map}
use Rattle.std.proofs.lemmas.List.Elements.{All-nil}
use Rattle.std.proofs.lemmas.Option.{none-some}
use Rattle.dm_network.specs.Net.{Net, IsWithinLimits}
use Rattle.dm_network.specs.Start.{IsNetwork}
use Rattle.dm_rows.specs.Rows.{RowsValue}
use Rattle.dm_rows.specs.Cost.{cost_of}
use Rattle.dm_rows.specs.Timetable.{IsLeast}
use Rattle.dm_rows.specs.declared.messages.Entry.{Entry}
use Rattle.dm_cert.specs.declared.replies.LogItem.{LogItem}
use Rattle.dm_cert.specs.declared.replies.FeedLog.{FeedLog}
use Rattle.dm_cert.specs.Answers.{Setting}
use Rattle.dm_cert.specs.Logs.{AreTrueLogs}
use Rattle.dm_cert.specs.RunTexts.{Run, run_text, IsSpelledLog, FitsRun}
use Rattle.dm_cert.specs.Runs.{setting_of as run_setting, IsRunText, IsTrueNote}
use Rattle.dm_records.specs.Laws.{IsHeldLog}
use Rattle.dm_records.proofs.HeldRuns.{is_in_print}
use Rattle.dm_records.proofs.RunsSplit.{runs_have_own_texts}
use Rattle.dm_table.specs.Value.{TableValue, IsTable}
use Rattle.dm_table_desk.specs.Tables.{setting_of}
use Rattle.dm_book.specs.Books.{AreNone, AreRecorded, IsTrueBook, log_of}
use Rattle.dm_restore.specs.Restoring.{IsRunIn}
use Rattle.dm_restore.specs.Inside.Entering.{AreSorted}
use Rattle.dm_restore.specs.Inside.Judging.{run_of}
use Rattle.dm_restore.proofs.Known.{logs_known}

module _ (plans : ℕ) (table : TableValue) (logs : List FeedLog) (is : IsTable table) (network : IsNetwork table.network) (limits : IsWithinLimits table.network) (spelled : All IsSpelledLog logs) (sorted : AreSorted table.history)
    (some : 1 ≤ length logs) (few : length logs ≤ 64) (held : All IsHeldLog logs) (fits : FitsRun (run_of table logs)) where
  -- the text is that of a true run where the logs are true
  pub text_is_true : AreTrueLogs (setting_of plans table) table.history logs → IsRunText table.network table.start table.penalty plans (run_text 2 (run_of table logs))
  text_is_true are = record {
    version = 2;
    history = table.history;
    logs = logs;
    notes = [];
    times = table.times;
    cost = cost_of table.network table.rows table.times table.penalty;
    is_text = record {
      is_version = inr refl;
      is_true = record {
        some_feed = some;
        few_feeds = few;
        legal = is.legal;
        logs = are;
        notes = record {
          few = omega arith;
          each = All-nil (IsTrueNote (length table.history));
          once = λ i j one other at there. absurd (none-some one at);
          in_order = λ i j one other at there le. absurd (none-some one at);
        };
        least = subst (λ (x : RowsValue). IsLeast table.network x table.times) is.replayed is.least;
        cost = ap (λ (x : RowsValue). cost_of table.network x table.times table.penalty) is.replayed;
      };
      fits = fits;
      is_spelled = record { history = sorted; logs = spelled; times = is.least.meets.size };
      known = logs_known logs;
      spelled = refl;
    };
  }

  -- and only there
  pub logs_are_true : IsRunText table.network table.start table.penalty plans (run_text 2 (run_of table logs)) → AreTrueLogs (setting_of plans table) table.history logs
  logs_are_true r =
      let other : Run = record { net = table.network; penalty = table.penalty; history = r.history; logs = r.logs; notes = r.notes; times = r.times; cost = r.cost } in
      let text = run_text 2 (run_of table logs) in
      let entries : length table.history ≤ 1000000 = is.legal.size in
      let same =
      runs_have_own_texts 2 r.version (run_of table logs) other [] [] (inr refl) r.is_text.is_version
      (record {
        spelled = record { history = sorted; logs = spelled; times = is.least.meets.size };
        fits = fits;
        held = record { history = omega (arith, entries); feeds = omega (arith, few); logs = held; notes = omega arith };
      })
      (is_in_print r.version plans table.start other text network limits r.is_text) refl (ap (λ (t : List ℕ). t ++ []) r.is_text.spelled) in
      subst (λ (run : Run). AreTrueLogs (run_setting 2 plans table.start run) run.history run.logs) (sym same.run)
      (subst (λ (v : ℕ). AreTrueLogs (run_setting v plans table.start other) r.history r.logs) (sym same.same_version) r.is_text.is_true.logs)

-- ---- the run of logs that were read

pub run_in : (s : Setting) (feeds : ℕ) (contents : List (List ℕ)) (plans : ℕ) (table : TableValue) (logs : List FeedLog) → IsTable table → setting_of plans table ≡ s → length logs ≡ feeds →
    logs ≡ map log_of (map (λ log. log.items) logs) → AreNone contents (map (λ log. log.items) logs) ⊎ AreRecorded s contents (map (λ log. log.items) logs) →
    ((history : List Entry) → IsTrueBook s (record { history = history; logs = map (λ log. log.items) logs }) → table.history ≡ history) →
    IsRunIn s feeds contents (run_of table logs) (map (λ log. log.items) logs)
run_in s feeds contents plans table logs is same size go_on is_in entered =
    let items : List (List LogItem) = map (λ (log : FeedLog). log.items) logs in
    let In : Setting → Type 0 = λ t. AreNone contents items ⊎ AreRecorded t contents items in
    let Entered : Setting → Type 0 = λ t. (history : List Entry) → IsTrueBook t (record { history = history; logs = items }) → table.history ≡ history in
    let here : IsRunIn (setting_of plans table) feeds contents (run_of table logs) items = record {
      as_many = length-map logs (λ (log : FeedLog). log.items) ∙ size;
      is_in = subst In (sym same) is_in;
      net = refl;
      penalty = refl;
      logs_are = go_on;
      notes = refl;
      legal = is.legal;
      least = subst (λ (x : RowsValue). IsLeast table.network x table.times) is.replayed is.least;
      cost = ap (λ (x : RowsValue). cost_of table.network x table.times table.penalty) is.replayed;
      entered = subst Entered (sym same) entered;
    } in
    subst (λ (t : Setting). IsRunIn t feeds contents (run_of table logs) items) same here

-- what is known of a network, rows, a penalty and a list is so of equal ones
pub carried : {V : Type 0} (P : Net → RowsValue → ℕ → List V → Type 0) (net other : Net) (start begin : RowsValue) (penalty price : ℕ) (text same : List V) → net ≡ other → start ≡ begin → penalty ≡ price → text ≡ same → P net start penalty text →
    P other begin price same
carried P net other start begin penalty price text same a b c d h =
    subst (P other begin price) d (subst (λ (n : ℕ). P other begin n text) c (subst (λ (r : RowsValue). P other r penalty text) b (subst (λ (n : Net). P n start penalty text) a h)))
