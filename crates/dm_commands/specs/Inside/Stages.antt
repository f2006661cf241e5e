-- Stages of a run.
use Rattle.std.specs.Prelude.{ℕ, ◌≡◌, ◌^◌, ◌<◌, ◌≤◌, List, length, slice_get, Option, Some, None}
use Rattle.dm_base.specs.declared.limits.TheConstants.{BUDGET, DELAY, FEEDS, PENALTY, WORKERS}
use Rattle.dm_base.specs.declared.rows.DelayRow.{DelayRow}
use Rattle.dm_input.specs.Input.{Told, IsHeld}
use Rattle.dm_input.specs.Lines.{refused_line, read_fault_line}
use Rattle.dm_words.specs.Words.{RunAsked, CheckAsked, QueryAsked, FilesAsked, Command, RunOf, CheckOf, GenOf, QueryOf}
use Rattle.dm_words.specs.declared.queries.Query.{Query}
use Rattle.dm_words.specs.declared.queries.Query.TheVariants.{Follow, Window, Rules, Journey}
use Rattle.dm_words.specs.declared.queries.WindowWords.{WindowWords}
use Rattle.dm_words.specs.declared.queries.RulesWords.{RulesWords}
use Rattle.dm_waitrule.specs.Rules.{KeepsWithin}
use Rattle.dm_input.specs.declared.flaws.InputStop.{InputStop}
use Rattle.dm_input.specs.declared.flaws.InputStop.TheVariants.{Refused, ReadFault, NoMemory}
use Rattle.dm_network.specs.Net.{Net}
use Rattle.dm_rows.specs.Rows.{RowsValue, start_rows_without}
use Rattle.dm_rows.specs.Cost.{cost_of}
use Rattle.dm_cert.specs.declared.limits.TheConstants.{PLANS}
use Rattle.dm_cert.specs.declared.replies.FeedLog.{FeedLog}
use Rattle.dm_cert.specs.declared.notes.Note.{Note}
use Rattle.dm_cert.specs.RunTexts.{Run}
use Rattle.dm_table.specs.Value.{TableValue}
use Rattle.dm_commands.specs.declared.status.Status.{Status}
use Rattle.dm_commands.specs.declared.status.Status.TheVariants.{Refused as IsRefused, ReadFault as IsReadFault, NoMemory as WantsMore}
use Rattle.dm_commands.specs.Boards.{Ended}
use Rattle.dm_commands.specs.Ends.{EndsAs}
use Rattle.dm_commands.specs.Ruled.{rule_named}
use Rattle.dm_commands.specs.Inside.Generating.{IsDayWithin}

-- the rows are those at the start, of some delays and some cancelled events
pub record IsAtStart (net : Net) (rows : RowsValue) : Type 0 where
  pub event_delays : List DelayRow
  pub activity_delays : List DelayRow
  pub cancelled : List ℕ
  pub are : rows ≡ start_rows_without net event_delays activity_delays cancelled

-- ---- words

-- the numbers of words that ask for a run
pub record AreWithin (asked : RunAsked) : Type 0 where
  pub penalty : asked.files.penalty ≤ PENALTY
  pub some_feed : 1 ≤ length asked.feeds
  pub few_feeds : length asked.feeds ≤ FEEDS
  pub some_lines : 0 < asked.batch
  pub few_lines : asked.batch < 2 ^ 32
  pub workers : (1 ≤ asked.workers) × (asked.workers ≤ WORKERS)

-- the numbers of a check
pub record IsCheckWithin (asked : CheckAsked) : Type 0 where
  pub penalty : asked.files.penalty ≤ PENALTY
  pub plans : asked.files.plans ≤ PLANS

-- the budget of a window
abbrev pub IsWindowWithin : WindowWords → Type 0
IsWindowWithin asked = (1 ≤ asked.budget) × (asked.budget ≤ BUDGET)

-- the numbers of a rule and of the plan beside it
pub record AreRulesWithin (asked : RulesWords) : Type 0 where
  pub limit : KeepsWithin DELAY (rule_named asked.rule)
  pub budget : (1 ≤ asked.budget) × (asked.budget ≤ BUDGET)
  pub workers : (1 ≤ asked.workers) × (asked.workers ≤ WORKERS)

-- the numbers of a question to a journal
abbrev pub IsWithinLimits : Query → Type 0
IsWithinLimits Follow = Unit {0}
IsWithinLimits (Window asked) = IsWindowWithin asked
IsWithinLimits (Rules asked) = AreRulesWithin asked
IsWithinLimits (Journey asked) = asked.changes ≤ 8

pub record IsQueryWithin (asked : QueryAsked) : Type 0 where
  pub penalty : asked.files.penalty ≤ PENALTY
  pub limits : IsWithinLimits asked.query

abbrev pub IsWithin : Command → Type 0
IsWithin (RunOf asked) = AreWithin asked
IsWithin (CheckOf asked) = IsCheckWithin asked
IsWithin (GenOf asked) = IsDayWithin asked
IsWithin (QueryOf asked) = IsQueryWithin asked

-- ---- feeds

-- what opening a name gave: a source that has the bytes under it left, or none where the name is not told sound
pub record IsOpenedAs {S : Type 0} (left : S → Option (List ℕ)) (source_sound : S → Type 0) (told : Told)
    (is_sound : List ℕ → Type 0) (name : List ℕ) (source : S) : Type 0 where
  pub held : (bytes : List ℕ) → left source ≡ Some bytes → IsHeld told name bytes
  pub untold : left source ≡ None → told ≡ None
  pub sound : is_sound name → source_sound source

abbrev pub IsOpened : {S : Type 0} → (S → Option (List ℕ)) → (S → Type 0) → Told → (List ℕ → Type 0) → List ℕ → Option S → Type 0
IsOpened left source_sound told is_sound name (Some source) = IsOpenedAs left source_sound told is_sound name source
IsOpened left source_sound told is_sound name None = is_sound name → ⊥

-- the first names were opened
pub record OpenedFirst {S : Type 0} (left : S → Option (List ℕ)) (source_sound : S → Type 0) (told : Told)
    (is_sound : List ℕ → Type 0) (names : List (List ℕ)) (many : ℕ) (feeds : List (Option S)) : Type 0 where
  pub as_many : length feeds ≡ many
  pub each : (k : ℕ) (name : List ℕ) (feed : Option S) → slice_get names k ≡ Some name → slice_get feeds k ≡ Some feed →
      IsOpened left source_sound told is_sound name feed

pub record AreOpened {S : Type 0} (left : S → Option (List ℕ)) (source_sound : S → Type 0) (told : Told)
    (is_sound : List ℕ → Type 0) (names : List (List ℕ)) (feeds : List (Option S)) : Type 0 where
  pub as_many : length feeds ≡ length names
  pub each : (k : ℕ) (name : List ℕ) (feed : Option S) → slice_get names k ≡ Some name → slice_get feeds k ≡ Some feed →
      IsOpened left source_sound told is_sound name feed

-- ---- runs

-- what is printed of a run
abbrev pub run_in : TableValue → List FeedLog → List Note → Run
run_in table logs notes =
    record {
      net = table.network;
      penalty = table.penalty;
      history = table.history;
      logs = logs;
      notes = notes;
      times = table.times;
      cost = cost_of table.network table.rows table.times table.penalty;
    }

-- how it ends
abbrev pub ended_in : TableValue → List FeedLog → List Note → Ended
ended_in table logs notes = record { run = run_in table logs notes; cancelled = table.rows.cancelled }

-- ---- stops

-- a run that its files stopped ends so
abbrev pub EndsStopped : {K : Type 0} → (K → Option (List ℕ)) → (K → ℕ) → FilesAsked → InputStop → K → K → Status → Type 0
EndsStopped taken faults files (Refused flaw) before now result = EndsAs taken faults before now (refused_line files flaw) IsRefused result
EndsStopped taken faults files (ReadFault file) before now result =
    EndsAs taken faults before now (read_fault_line files file) IsReadFault result
EndsStopped taken faults files NoMemory before now result = (now ≡ before) × (result ≡ WantsMore)
