-- A run that is answered has a spelling, and is true.
use Rattle.std.proofs.Common.{◌≡◌, ℕ, ◌≤◌, inl, inr, Bool, List, [], length, All, Option, Some, None, Ok, refl, sym, ap, subst, ◌∙◌, arith, get_or}
use Rattle.std.specs.Prelude.{IfSome}
use Rattle.std.proofs.lemmas.Option.{slice_get_within, slice_get-get_or}
use Rattle.dm_network.specs.Net.{Net}
use Rattle.dm_network.specs.Start.{IsNetwork}
use Rattle.dm_rows.specs.Rows.{RowsValue, IsSized}
use Rattle.dm_rows.specs.History.{rows_at}
use Rattle.dm_rows.specs.Cost.{cost_of}
use Rattle.dm_rows.specs.Timetable.{IsLeast}
use Rattle.dm_input.specs.Input.{Told, IsHeld, Opening, OpeningAnswer}
use Rattle.dm_words.specs.Words.{RunAsked, RunOf, Asks}
use Rattle.dm_cert.specs.declared.replies.FeedLog.{FeedLog}
use Rattle.dm_cert.specs.Logs.{names, AreTrueLogs, KeepsRounds}
use Rattle.dm_cert.specs.declared.notes.Note.{Note}
use Rattle.dm_cert.specs.RunTexts.{IsSpelledLog, IsSpelledRun, FitsRun, run_text}
use Rattle.dm_commands.specs.Boards.{Ended}
use Rattle.dm_cert.specs.Runs.{IsTrueRun, AreTrueNotes}
use Rattle.dm_cert.proofs.SortedEntries.{true_logs_have_sorted_entries}
use Rattle.dm_desk.specs.Answered.{times}
use Rattle.dm_rounds.specs.Rounds.{IsLogFrom, IsLogFor}
use Rattle.dm_table.specs.Value.{TableValue}
use Rattle.dm_commands.specs.declared.status.Status.{Status}
use Rattle.dm_commands.specs.Feeds.{IsLogOfHeld, IsLogOfName, AreLogsOf, status_of}
use Rattle.dm_commands.specs.Headline.{IsRunOf}
use Rattle.dm_crew.specs.AtOnce.{table_desk, AnswersDay}
use Rattle.dm_crew.proofs.Days.{each_once}
use Rattle.dm_commands.specs.Inside.Stages.{IsOpenedAs, IsOpened, AreOpened, AreWithin, ended_in, run_in}
use Rattle.dm_commands.proofs.Optimal.{optimal_is_least, knows_logs}

-- ---- one run

module _ {S : Type 0} (left : S → Option (List ℕ)) (source_sound : S → Type 0) (net : Net) (rows : RowsValue) (price plans : ℕ) (feeds : List (Option S)) (batch : ℕ) (table : TableValue) (logs : List FeedLog) (notes : List Note) (r : AnswersDay left source_sound net rows price plans feeds batch table logs) where
  logs_are_true : AreTrueLogs (table_desk plans table).setting table.history logs
  logs_are_true = record {
    each = r.answers.are_true;
    once = λ n some low.
        let before : times n [] ≡ 0 = refl in
        omega (arith, r.answers.named n, before, each_once (length table.history) n some low);
  }

  logs_are_spelled : All IsSpelledLog logs
  logs_are_spelled k d low = r.answers.spelled k (get_or logs k d) (slice_get-get_or logs k d low)

  pub run_is_spelled : IsSpelledRun (run_in table logs notes)
  run_is_spelled = record {
    history = true_logs_have_sorted_entries (table_desk plans table).setting table.history logs logs_are_true logs_are_spelled;
    logs = logs_are_spelled;
    times = r.is_table.least.meets.size;
  }

  run_is_true : AreTrueNotes (length table.history) notes → 1 ≤ length logs → length logs ≤ 64 → IsTrueRun 2 plans table.start (run_in table logs notes)
  run_is_true noted some few = record {
    some_feed = some;
    few_feeds = few;
    legal = r.is_table.legal;
    logs = logs_are_true;
    notes = noted;
    least = subst (λ (x : RowsValue). IsLeast table.network x table.times) r.is_table.replayed r.is_table.least;
    cost = ap (λ (x : RowsValue). cost_of table.network x table.times table.penalty) r.is_table.replayed;
  }

  -- ---- its logs

  held_in : (told : Told) (is_sound : List ℕ → Type 0) (name : List ℕ) (source : S) (bytes : List ℕ) → IsOpenedAs left source_sound told is_sound name source → (known : Option (List ℕ)) → left source ≡ known → IfSome known (λ rest. rest ≡ bytes) → IsHeld told name bytes
  held_in told is_sound name source bytes o None is same = subst (λ (t : Told). IsHeld t name bytes) (sym (o.untold is)) tt
  held_in told is_sound name source bytes o (Some rest) is same = subst (IsHeld told name) same (o.held rest is)

  held_log : (told : Told) (is_sound : List ℕ → Type 0) (name : List ℕ) (source : S) (log : FeedLog) → IsOpenedAs left source_sound told is_sound name source → IsLogFrom left source_sound source log → IsLogOfHeld told is_sound name log
  held_log told is_sound name source log o l = record {
    bytes = l.bytes;
    held = held_in told is_sound name source l.bytes o (left source) refl l.told;
    log_of = l.log_of;
    cause = λ fault sound. l.cause fault (o.sound sound);
  }

  log_of_name : (told : Told) (is_sound : List ℕ → Type 0) (name : List ℕ) (feed : Option S) (log : FeedLog) → IsOpened left source_sound told is_sound name feed → IsLogFor left source_sound feed log → IsLogOfName told is_sound name log
  log_of_name told is_sound name (Some source) log o l = inl (held_log told is_sound name source log o l)
  log_of_name told is_sound name None log o l = inr (record { none = l.none; fault = l.fault; cause = o })

  pub logs_of_names : (told : Told) (is_sound : List ℕ → Type 0) (names : List (List ℕ)) → AreOpened left source_sound told is_sound names feeds → AreLogsOf told is_sound names logs
  logs_of_names told is_sound names o = record {
    as_many = r.answers.as_many ∙ o.as_many;
    each = λ k name log n l.
        let feed = get_or feeds k None in
        let at = slice_get-get_or feeds k None (omega (arith, slice_get_within names k name n, o.as_many)) in
        log_of_name told is_sound name feed log (o.each k name feed n at) (r.answers.logs_for k feed log at l);
  }

  -- ---- its text

  pub is_run_of : (told : Told) (is_sound : List ℕ → Type 0) (end_boards : Option Ended → Type 0) (words : List (List ℕ)) (asked : RunAsked) (opening : Opening) → Asks words (RunOf asked) → AreWithin asked → IsNetwork net → OpeningAnswer told asked.files (Ok opening) → opening.net ≡ net → opening.rows ≡ rows → price ≡ asked.files.penalty → plans ≡ asked.files.plans
      → batch ≡ asked.batch → AreOpened left source_sound told is_sound asked.feeds feeds → FitsRun (run_in table logs notes) → AreTrueNotes (length table.history) notes → end_boards (Some (ended_in table logs notes)) → (status : Status) → status ≡ status_of logs → IsRunOf told is_sound end_boards words status (run_text 2 (run_in table logs notes))
  is_run_of told is_sound end_boards words asked opening asks within network opens is_net is_rows is_price is_plans is_batch opened fits noted boards status is_status =
      let of = logs_of_names told is_sound asked.feeds opened in
      let start : table.start ≡ opening.rows = r.start ∙ sym is_rows in
      let is_true : IsTrueRun 2 asked.files.plans opening.rows (run_in table logs notes) =
      subst (λ (n : ℕ). IsTrueRun 2 n opening.rows (run_in table logs notes)) is_plans (subst (λ (x : RowsValue). IsTrueRun 2 plans x (run_in table logs notes)) start (run_is_true noted (omega (arith, of.as_many, within.some_feed)) (omega (arith, of.as_many, within.few_feeds)))) in
      record {
        asked = asked;
        is_asked = asks;
        opening = opening;
        opens = opens;
        run = run_in table logs notes;
        net = r.network ∙ sym is_net;
        penalty = r.penalty ∙ is_price;
        boards = subst (λ (f : List Bool). end_boards (Some (record { run = run_in table logs notes; cancelled = f }))) (ap (λ (x : RowsValue). x.cancelled) (r.is_table.replayed ∙ ap (λ (x : RowsValue). rows_at table.network x table.history (length table.history)) start)) boards;
        logs = of;
        rounds = subst (KeepsRounds logs) is_batch r.answers.rounds;
        has_status = is_status;
        is_text = record {
          is_version = inr refl;
          is_true = is_true;
          fits = fits;
          is_spelled = run_is_spelled;
          known = knows_logs logs;
          spelled = refl;
        };
        optimal =
            optimal_is_least asked.files.plans opening.rows (run_in table logs notes) (subst IsNetwork (sym r.network) network)
            (subst (IsSized table.network) start r.is_table.sized) is_true;
      }
