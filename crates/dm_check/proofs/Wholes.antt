-- What stands behind the logs, and the whole text.
use Rattle.std.proofs.Common.{◌≡◌, ℕ, zero, suc, ◌+◌, ◌<◌, ◌≤◌, Bool, List, [], ◌∷◌, ◌++◌, length, Result, Ok, Err, refl, sym, ap, subst, ◌∙◌, inl, inr, arith, codes, length-append}
use Rattle.std.specs.Prelude.{count_by}
use Rattle.std.proofs.lemmas.Bool.{cases_lt}
use Rattle.dm_base.specs.declared.limits.TheConstants.{FEEDS, ENTRIES}
use Rattle.dm_text.specs.Places.{Place, at_start}
use Rattle.dm_text.specs.Judging.{Times}
use Rattle.dm_network.specs.Net.{Net}
use Rattle.dm_network.specs.Start.{IsNetwork}
use Rattle.dm_rows.specs.declared.messages.Entry.{Entry}
use Rattle.dm_rows.specs.Rows.{RowsValue}
use Rattle.dm_rows.specs.Active.{HasNoCycle}
use Rattle.dm_check_answers.proofs.Rows.{none_least}
use Rattle.dm_cert.specs.Answers.{Setting, rows_after, is_plan}
use Rattle.dm_cert.specs.Logs.{all_items}
use Rattle.dm_cert.specs.RunTexts.{Run}
use Rattle.dm_cert.specs.declared.notes.Note.{Note}
use Rattle.dm_cert.specs.declared.replies.FeedLog.{FeedLog}
use Rattle.dm_records.specs.RunLines.{Timed, IsTimeLine, IsVersionLine}
use Rattle.dm_check.specs.declared.faults.Fault.{Fault}
use Rattle.dm_check.specs.declared.faults.Stop.{Stop}
use Rattle.dm_check.specs.declared.faults.Stop.TheVariants.{Fault as Found, OutOfMemory}
use Rattle.dm_check.specs.declared.checking.Counts.{Counts}
use Rattle.dm_check.specs.declared.verdicts.BadKind.TheVariants.{Time}
use Rattle.dm_check.specs.FalseRecords.{bad, Reads, TellsEntry, TellsLog, TellsBoards, TellsNote, TellsNumber, TellsTime, TellsCost, TellsEnd, TellsRun, IsGood}
use Rattle.dm_check.specs.Judged.{JudgedThat, TellsTimetable, EndingOn, RestOn, LogsOn, LogsAndRestOn, HistoryOn, BodyOn, RunOn, TellsEntries, EntersAll}

-- ---- the times, the cost and the last line

abbrev run_with : Setting → List Entry → List FeedLog → List Note → List ℕ → ℕ → Run
run_with s history logs notes times cost = record { net = s.net; penalty = s.penalty; history = history; logs = logs; notes = notes; times = times; cost = cost }

module _ (s : Setting) (history : List Entry) (logs : List FeedLog) (notes : List Note) (rows : RowsValue) (old : Place) where
  module _ (mid : Place) (timed : TellsTimetable s.net rows old mid (Ok tt)) where
    module _ (cost : ℕ) (behind : Place) (priced : TellsCost s.net rows s.penalty mid (Ok (cost, behind))) where
      pub end_fault : (new : Place) (fault : Fault) → ((run : Run) → TellsEnd run behind (Err fault)) → EndingOn s history logs notes rows old new (Err (Found fault))
      end_fault new fault told = inr (record {
        value = timed.times;
        behind = mid;
        told = timed.told;
        then = inr (record { value = cost; behind = behind; told = priced; then = told (run_with s history logs notes timed.times cost) });
      })

      pub ends_well : (new : Place) → ((run : Run) → TellsEnd run behind (Ok (run, new))) → EndingOn s history logs notes rows old new (Ok tt)
      ends_well new told = record {
        value = run_with s history logs notes timed.times cost;
        told = record {
          value = timed.times;
          behind = mid;
          told = timed.told;
          then = record { value = cost; behind = behind; told = priced; then = told (run_with s history logs notes timed.times cost) };
        };
        holds_of = record { history_is = refl; logs_are = refl };
      }

-- rows with a cycle are of a network with an event
some_event : (net : Net) (rows : RowsValue) → (HasNoCycle net rows → ⊥) → 0 < length net.events
some_event net rows cyclic = elim (cases_lt 0 (length net.events)) [
  | inl some ↦ some
  | inr none ↦ absurd (cyclic (no_cycle none))
]
  where
    no_cycle : length net.events ≤ 0 → HasNoCycle net rows
    no_cycle none [] is = is
    no_cycle none (a ∷ cycle) is = let below = is.0.from_event in absurd (omega arith)

first_time : (net : Net) (rows : RowsValue) (n : ℕ) → 0 < n → (place : Place) (fault : Fault) → TellsTime net rows [] place (Err fault) → Times n (TellsTime net rows) [] place (Err fault)
first_time net rows zero some place fault told = absurd (omega arith)
first_time net rows (suc n) some place fault told = inl told

module _ (s : Setting) (history : List Entry) (logs : List FeedLog) (notes : List Note) (rows : RowsValue) (cyclic : HasNoCycle s.net rows → ⊥) (old new : Place) where
  pub untimed : IsNetwork s.net → (said : Timed) (line : ℕ) → line ≡ old.line → Reads IsTimeLine old (Ok (said, new)) → EndingOn s history logs notes rows old new (Err (Found (bad Time line)))
  untimed network said line at read =
      inl (first_time s.net rows (length s.net.events) (some_event s.net rows cyclic) old (bad Time line)
      (inr (record { value = said; behind = new; told = read; then = (λ rule. none_least s.net rows network cyclic rule.times rule.least, ap (bad Time) at) })))

  pub unread : (fault : Fault) → Reads IsTimeLine old (Err fault) → EndingOn s history logs notes rows old new (Err (Found fault))
  unread fault read = inl (first_time s.net rows (length s.net.events) (some_event s.net rows cyclic) old fault (inl read))

-- ---- what stands behind the logs

module _ (s : Setting) (history : List Entry) (logs : List FeedLog) (old : Place) where
  module _ (count : ℕ) (mid : Place) (boards : TellsBoards history logs old (Ok (count, mid))) where
    pub notes_stop : (behind new : Place) (stop : Stop) → JudgedThat (Times count (TellsNote history) []) (λ (done : Unit {0}) notes. Unit {0}) mid behind (Err stop) → RestOn s history logs old new (Err stop)
    notes_stop behind new (Found fault) told = inr (record { value = count; behind = mid; told = boards; then = inl told })
    notes_stop behind new OutOfMemory told = tt

    module _ (behind : Place) (noted : JudgedThat (Times count (TellsNote history) []) (λ (done : Unit {0}) notes. Unit {0}) mid behind (Ok tt)) (entries : ℕ) (at : entries ≡ length history) where
      headed : (answer : Result (ℕ × Place) Fault) → TellsNumber (codes "times ") (λ n. n ≡ entries) behind answer → TellsNumber (codes "times ") (λ n. n ≡ length history) behind answer
      headed answer told = subst (λ (k : ℕ). TellsNumber (codes "times ") (λ n. n ≡ k) behind answer) at told

      pub heading_fault : (new : Place) (fault : Fault) → TellsNumber (codes "times ") (λ n. n ≡ entries) behind (Err fault) → RestOn s history logs old new (Err (Found fault))
      heading_fault new fault told = inr (record {
        value = count;
        behind = mid;
        told = boards;
        then = inr (record { value = noted.value; behind = behind; told = noted.told; then = inl (headed (Err fault) told) });
      })

      pub rest_on : (heading : ℕ) (last new : Place) (rows : RowsValue) (result : Result (Unit {0}) Stop) → TellsNumber (codes "times ") (λ n. n ≡ entries) behind (Ok (heading, last)) →
          rows ≡ rows_after s history (length history) → ((notes : List Note) → EndingOn s history logs notes rows last new result) → RestOn s history logs old new result
      rest_on heading last new rows result told are ending =
          by_result result (subst (λ (r : RowsValue). EndingOn s history logs noted.value r last new result) are (ending noted.value))
        where
          by_result : (result : Result (Unit {0}) Stop) → EndingOn s history logs noted.value (rows_after s history (length history)) last new result → RestOn s history logs old new result
          by_result (Ok done) on = record {
            value = on.value;
            told = record {
              value = count;
              behind = mid;
              told = boards;
              then = record { value = noted.value; behind = behind; told = noted.told; then = record { value = heading; behind = last; told = headed (Ok (heading, last)) told; then = on.told } };
            };
            holds_of = on.holds_of;
          }
          by_result (Err (Found fault)) on = inr (record {
            value = count;
            behind = mid;
            told = boards;
            then = inr (record { value = noted.value; behind = behind; told = noted.told; then = inr (record { value = heading; behind = last; told = headed (Ok (heading, last)) told; then = on }) });
          })
          by_result (Err OutOfMemory) on = tt

-- ---- the logs, the entries and the header

module _ (s : Setting) (history : List Entry) (feeds : ℕ) (old : Place) (flags : List Bool) where
  pub logs_stopped : (mid new : Place) (named : List Bool) (stop : Stop) → LogsOn s history feeds old mid flags named (Err stop) → LogsAndRestOn s history feeds old new (Err stop)
  logs_stopped mid new named (Found fault) told = inl told
  logs_stopped mid new named OutOfMemory told = tt

  module _ (mid new : Place) (named : List Bool) (plans : ℕ) (few : feeds ≤ FEEDS) (logged : LogsOn s history feeds old mid flags named (Ok plans)) where
    pub rest_stopped : (stop : Stop) → RestOn s history logged.value mid new (Err stop) → LogsAndRestOn s history feeds old new (Err stop)
    rest_stopped (Found fault) told = inr (record { value = logged.value; behind = mid; told = logged.told; then = told })
    rest_stopped OutOfMemory told = tt

    pub logs_and_rest : RestOn s history logged.value mid new (Ok tt) → LogsAndRestOn s history feeds old new (Ok plans)
    logs_and_rest rest = record {
      value = rest.value;
      told = record { value = logged.value; behind = mid; told = logged.told; then = rest.told };
      holds_of = record {
        history_is = rest.holds_of.history_is;
        plans_are = logged.holds_of.plans_are ∙ ap (λ (ls : List FeedLog). count_by is_plan (all_items ls)) (sym rest.holds_of.logs_are);
        few = let p = logged.holds_of.few in let n = many feeds [] logged.value old mid logged.told in omega (arith, n, few);
      };
    }
      where
        many : (n : ℕ) (held all : List FeedLog) (place next : Place) → Times n (TellsLog s history) held place (Ok (all, next)) → length all ≡ length held + n
        many zero held all place next told = ap length told.0 ∙ (omega arith)
        many (suc n) held all place next told =
            let more = many n (held ++ told.value ∷ []) all told.behind next told.then in
            omega (arith, more, length-append held (told.value ∷ []))

module _ (s : Setting) (feeds entries : ℕ) (old : Place) where
  pub history_stop : {X : Type 0} (seen : X → List Entry) (mid new : Place) (rows : RowsValue) (stop : Stop) → TellsEntries seen s feeds entries old mid rows (Err stop) → HistoryOn s feeds entries old new (Err stop)
  history_stop seen mid new rows (Found fault) told = inl told
  history_stop seen mid new rows OutOfMemory told = tt

  module _ (mid new : Place) (rows : RowsValue) (history : List Entry) (entered : EntersAll s feeds entries old mid rows history) where
    pub logs_stop : (stop : Stop) → LogsAndRestOn s history feeds mid new (Err stop) → HistoryOn s feeds entries old new (Err stop)
    logs_stop (Found fault) told = inr (record { value = history; behind = mid; told = entered.told; then = told })
    logs_stop OutOfMemory told = tt

    pub counted : (n : ℕ) (held all : List Entry) (place next : Place) → Times n (TellsEntry s feeds) held place (Ok (all, next)) → length all ≡ length held + n
    counted zero held all place next told = ap length told.0 ∙ (omega arith)
    counted (suc n) held all place next told =
        let more = counted n (held ++ told.value ∷ []) all told.behind next told.then in
        omega (arith, more, length-append held (told.value ∷ []))

    pub history_on : (counts : Counts) (plans : ℕ) → LogsAndRestOn s history feeds mid new (Ok plans) → counts.entries ≡ entries → counts.plans ≡ plans → HistoryOn s feeds entries old new (Ok counts)
    history_on counts plans on at of = record {
      value = on.value;
      told = record { value = history; behind = mid; told = entered.told; then = on.told };
      holds_of = record {
        entries_are = at ∙ (all_of ∙ ap length (sym on.holds_of.history_is));
        plans_are = of ∙ on.holds_of.plans_are;
      };
    }
      where
        all_of : entries ≡ length history
        all_of = let n = counted entries [] history old mid entered.told in omega (arith, n)

abbrev TellsPenalty : Setting → Place → Result (ℕ × Place) Fault → Type 0
TellsPenalty s = TellsNumber (codes "penalty ") (λ n. n ≡ s.penalty)

abbrev TellsFeeds : Place → Result (ℕ × Place) Fault → Type 0
TellsFeeds = TellsNumber (codes "feeds ") (λ n. (1 ≤ n) × (n ≤ FEEDS))

abbrev TellsCount : Place → Result (ℕ × Place) Fault → Type 0
TellsCount = TellsNumber (codes "entries ") (λ n. n ≤ ENTRIES)

module _ (s : Setting) (old : Place) where
  module _ (penalty : ℕ) (mid : Place) (paid : TellsPenalty s old (Ok (penalty, mid))) where
    pub feeds_fault : (new : Place) (fault : Fault) → TellsFeeds mid (Err fault) → BodyOn s old new (Err (Found fault))
    feeds_fault new fault told = inr (record { value = penalty; behind = mid; told = paid; then = inl told })

    module _ (feeds : ℕ) (behind : Place) (fed : TellsFeeds mid (Ok (feeds, behind))) where
      pub entries_fault : (new : Place) (fault : Fault) → TellsCount behind (Err fault) → BodyOn s old new (Err (Found fault))
      entries_fault new fault told = inr (record {
        value = penalty;
        behind = mid;
        told = paid;
        then = inr (record { value = feeds; behind = behind; told = fed; then = inl told });
      })

      pub body_on : (entries : ℕ) (last new : Place) (result : Result Counts Stop) → TellsCount behind (Ok (entries, last)) → HistoryOn s feeds entries last new result → BodyOn s old new result
      body_on entries last new (Ok counts) told on = record {
        value = on.value;
        told = record {
          value = penalty;
          behind = mid;
          told = paid;
          then = record { value = feeds; behind = behind; told = fed; then = record { value = entries; behind = last; told = told; then = on.told } };
        };
        holds_of = on.holds_of;
      }
      body_on entries last new (Err (Found fault)) told on = inr (record {
        value = penalty;
        behind = mid;
        told = paid;
        then = inr (record { value = feeds; behind = behind; told = fed; then = inr (record { value = entries; behind = last; told = told; then = on }) });
      })
      body_on entries last new (Err OutOfMemory) told on = tt

module _ (net : Net) (start : RowsValue) (penalty most_plans : ℕ) (old new : Place) where
  pub version_fault : (fault : Fault) → Reads IsVersionLine old (Err fault) → RunOn net start penalty most_plans old new (Err (Found fault))
  version_fault fault told = inl told

  pub run_on : (version : ℕ) (mid : Place) (result : Result Counts Stop) → Reads IsVersionLine old (Ok (version, mid)) →
      BodyOn (record { net = net; start = start; penalty = penalty; plans = most_plans; version = version }) mid new result → RunOn net start penalty most_plans old new result
  run_on version mid (Ok counts) told on = record { value = on.value; told = record { value = version; behind = mid; told = told; then = on.told }; holds_of = on.holds_of }
  run_on version mid (Err (Found fault)) told on = inr (record { value = version; behind = mid; told = told; then = on })
  run_on version mid (Err OutOfMemory) told on = tt

pub run_good : (net : Net) (start : RowsValue) (penalty most_plans : ℕ) (text : List ℕ) (old new : Place) (counts : Counts) → old ≡ at_start text → RunOn net start penalty most_plans old new (Ok counts) →
    IsGood net start penalty most_plans text counts.entries counts.plans
run_good net start penalty most_plans text old new counts at on = record {
  run = on.value;
  end = new;
  told = subst (λ (p : Place). TellsRun net start penalty most_plans p (Ok (on.value, new))) at on.told;
  entries_are = on.holds_of.entries_are;
  plans_are = on.holds_of.plans_are;
}
