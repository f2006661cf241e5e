-- Stages of what is asked of a journal.
use Rattle.std.specs.Prelude.{ℕ, ◌≡◌, ◌<◌, ◌≤◌, ◌⊎◌, List, length, Option, Some, Ok, IfSome}
use Rattle.std.specs.List.{All}
use Rattle.dm_base.specs.declared.limits.TheConstants.{TEXT}
use Rattle.dm_network.specs.Net.{Net}
use Rattle.dm_rows.specs.Cost.{cost_of}
use Rattle.dm_rows.specs.Rows.{RowsValue}
use Rattle.dm_check.specs.declared.verdicts.BadKind.{BadKind}
use Rattle.dm_check.specs.declared.verdicts.BadKind.TheVariants as bad
use Rattle.dm_table.specs.Value.{TableValue, IsTable}
use Rattle.dm_follow.specs.Follower.{FollowerValue, tail_of}
use Rattle.dm_journal.specs.declared.giving.BrokenRule.{BrokenRule}
use Rattle.dm_journal.specs.declared.giving.BrokenRule.TheVariants.{Form, Entry}
use Rattle.dm_journey.specs.declared.arriving.Journey.{Journey}
use Rattle.dm_journey.specs.Journeys.{AreJourneys}
use Rattle.dm_input.specs.Input.{Told, IsHeld, Opening, OpeningAnswer}
use Rattle.dm_input.specs.Stops.{IsLong}
use Rattle.dm_words.specs.Words.{QueryAsked}
use Rattle.dm_words.specs.declared.queries.Query.{Query}
use Rattle.dm_words.specs.declared.queries.JourneyWords.{JourneyWords}
use Rattle.dm_words.specs.declared.queries.WindowWords.{WindowWords}
use Rattle.dm_outlook.specs.Outlooks.{IsOutlook}
use Rattle.dm_outlook.specs.declared.outlook.Outlook.{Outlook}
use Rattle.dm_words.specs.declared.queries.RulesWords.{RulesWords}
use Rattle.dm_waitrule.specs.declared.comparing.Comparison.{Comparison}
use Rattle.dm_commands.specs.declared.status.Status.{Status}
use Rattle.dm_commands.specs.declared.status.Status.TheVariants.{Ok as Well, Refused, ReadFault, NoMemory}
use Rattle.dm_commands.specs.Answers.{IsAnswerAt}
use Rattle.dm_commands.specs.Ends.{EndsAs}
use Rattle.dm_commands.specs.Followed.{state_text}
use Rattle.dm_ruling.specs.Texts.{comparison_text}
use Rattle.dm_commands.specs.Ruled.{rule_named, ComparesFor}
use Rattle.dm_commands.specs.Travelled.{journeys_text, stop_numbered}
use Rattle.dm_commands.specs.Verdicts.{long_text_line, unread_text_line}
use Rattle.dm_commands.specs.Searching.{search_for}
use Rattle.dm_stretch.specs.declared.windows.Window.{Window}
use Rattle.dm_stretch.specs.Held.{IsFirstWithout}
use Rattle.dm_commands.specs.Windowed.{IsWindowAsked, no_choice_line, unknown_entry_line}
use Rattle.dm_outlook.specs.Texts.{outlook_text}
use Rattle.dm_commands.specs.Inside.Checking.{EndsAtFiles}

-- ---- texts

-- the kind of a line that breaks a rule
abbrev pub kind_of_rule : BrokenRule → BadKind
kind_of_rule Form = bad.Form
kind_of_rule Entry = bad.Entry

-- the state that a follower has come to
abbrev pub state_of : FollowerValue → List ℕ
state_of f =
    state_text f.table.network f.table.rows (length f.table.history) (tail_of f) f.table.times
    (cost_of f.table.network f.table.rows f.table.times f.table.penalty)

-- each place of a walk is that of an activity
abbrev pub IsWalkIn : Net → List ℕ → Type 0
IsWalkIn net walk = All (λ a. a < length net.activities) walk

abbrev pub AreWalksIn : Net → List Journey → Type 0
AreWalksIn net journeys = All (λ journey. IsWalkIn net journey.walk) journeys

-- ---- ends

-- journeys that answer the question were printed, or there was not enough memory
pub record PrintsJourneys {K : Type 0} (taken : K → Option (List ℕ)) (faults : K → ℕ) (asked : JourneyWords)
    (table : TableValue) (before now : K) (result : Status) : Type 0 where
  pub is_table : IsTable table
  pub journeys : List Journey
  pub answer : AreJourneys table.network table.rows table.times (stop_numbered asked.from)
      (stop_numbered asked.to) asked.after asked.changes journeys
  pub ends : EndsAs taken faults before now (journeys_text table.network journeys) Well result

abbrev pub EndsTravelled : {K : Type 0} → (K → Option (List ℕ)) → (K → ℕ) → JourneyWords → TableValue → K → K → Status → Type 0
EndsTravelled taken faults asked table before now result = PrintsJourneys taken faults asked table before now result
    ⊎ ((now ≡ before) × (result ≡ NoMemory))

-- a plan that answers the question was printed, or that there are fewer entries than are named, or that an activity makes no choice
-- which could be held, or there was not enough memory
pub record PrintsOutlook {K : Type 0} (taken : K → Option (List ℕ)) (faults : K → ℕ) (asked : WindowWords) (table : TableValue)
    (before now : K) (result : Status) : Type 0 where
  pub is_table : IsTable table
  pub among : IfSome asked.at (λ n. n ≤ length table.history)
  pub window : Window
  pub is_asked : IsWindowAsked table.network asked window
  pub outlook : Outlook
  pub answer : IsOutlook table.network table.start table.penalty table.history window (search_for asked.solve asked.budget) asked.at asked.minimal outlook
  pub ends : EndsAs taken faults before now (outlook_text window (length table.history) outlook) Well result

pub record PrintsUnknown {K : Type 0} (taken : K → Option (List ℕ)) (faults : K → ℕ) (asked : WindowWords) (table : TableValue)
    (before now : K) (result : Status) : Type 0 where
  pub n : ℕ
  pub named : asked.at ≡ Some n
  pub above : length table.history < n
  pub ends : EndsAs taken faults before now (unknown_entry_line n) Refused result

pub record PrintsNoChoice {K : Type 0} (taken : K → Option (List ℕ)) (faults : K → ℕ) (asked : WindowWords) (table : TableValue)
    (before now : K) (result : Status) : Type 0 where
  pub among : IfSome asked.at (λ n. n ≤ length table.history)
  pub id : ℕ
  pub first : IsFirstWithout table.network asked.held id
  pub ends : EndsAs taken faults before now (no_choice_line id) Refused result

abbrev pub EndsOutlook : {K : Type 0} → (K → Option (List ℕ)) → (K → ℕ) → WindowWords → TableValue → K → K → Status → Type 0
EndsOutlook taken faults asked table before now result =
    PrintsOutlook taken faults asked table before now result
    ⊎ (PrintsUnknown taken faults asked table before now result
    ⊎ (PrintsNoChoice taken faults asked table before now result ⊎ ((now ≡ before) × (result ≡ NoMemory))))

-- a comparison that answers the question was printed, or there was not enough memory
pub record PrintsComparison {K : Type 0} (taken : K → Option (List ℕ)) (faults : K → ℕ) (asked : RulesWords)
    (table : TableValue) (before now : K) (result : Status) : Type 0 where
  pub is_table : IsTable table
  pub compared : Comparison
  pub answer : ComparesFor asked table.network table.rows table.penalty compared
  pub ends : EndsAs taken faults before now (comparison_text (rule_named asked.rule) compared) Well result

abbrev pub EndsCompared : {K : Type 0} → (K → Option (List ℕ)) → (K → ℕ) → RulesWords → TableValue → K → K → Status → Type 0
EndsCompared taken faults asked table before now result = PrintsComparison taken faults asked table before now result
    ⊎ ((now ≡ before) × (result ≡ NoMemory))

-- a text that is due to the question was printed, at its status
pub record PrintsAnswer {K : Type 0} (taken : K → Option (List ℕ)) (faults : K → ℕ) (asked : Query) (net : Net)
    (rows : RowsValue) (penalty : ℕ) (bytes : List ℕ) (before now : K) (result : Status) : Type 0 where
  pub status : Status
  pub text : List ℕ
  pub answers : IsAnswerAt asked net rows penalty bytes status text
  pub ends : EndsAs taken faults before now text status result

abbrev pub EndsOnJournal : {K : Type 0} → (K → Option (List ℕ)) → (K → ℕ) → Query → Net → RowsValue → ℕ → List ℕ → K → K → Status → Type 0
EndsOnJournal taken faults asked net rows penalty bytes before now result =
    PrintsAnswer taken faults asked net rows penalty bytes before now result ⊎ ((now ≡ before) × (result ≡ NoMemory))

-- the bytes of the text are short, and an answer to the question was printed, or there was not enough memory
pub record AnswersText {K : Type 0} (taken : K → Option (List ℕ)) (faults : K → ℕ) (told : Told) (asked : QueryAsked)
    (net : Net) (rows : RowsValue) (before now : K) (result : Status) : Type 0 where
  pub bytes : List ℕ
  pub held : IsHeld told asked.text bytes
  pub short : length bytes ≤ TEXT
  pub ends : EndsOnJournal taken faults asked.query net rows asked.files.penalty bytes before now result

-- how a question ends whose files make this network with these rows
abbrev pub EndsAsked : {K : Type 0} → (K → Option (List ℕ)) → (K → ℕ) → Told → (List ℕ → Type 0) → QueryAsked → Net →
    RowsValue → K → K → Status → Type 0
EndsAsked taken faults told is_sound asked net rows before now result =
    AnswersText taken faults told asked net rows before now result
    ⊎ (((is_sound asked.text → ⊥) × EndsAs taken faults before now (unread_text_line asked.text) ReadFault result)
    ⊎ ((IsLong told asked.text TEXT × EndsAs taken faults before now (long_text_line asked.text) Refused result)
    ⊎ ((now ≡ before) × (result ≡ NoMemory))))

-- its files made a network with rows
pub record EndsAtJournal {K : Type 0} (taken : K → Option (List ℕ)) (faults : K → ℕ) (told : Told) (is_sound : List ℕ → Type 0)
    (asked : QueryAsked) (before now : K) (result : Status) : Type 0 where
  pub opening : Opening
  pub opens : OpeningAnswer told asked.files (Ok opening)
  pub ends : EndsAsked taken faults told is_sound asked opening.net opening.rows before now result

-- how a question ends
abbrev pub EndsQueried : {K : Type 0} → (K → Option (List ℕ)) → (K → ℕ) → Told → (List ℕ → Type 0) → QueryAsked → K → K → Status → Type 0
EndsQueried taken faults told is_sound asked before now result =
    EndsAtFiles taken faults told is_sound asked.files before now result ⊎ EndsAtJournal taken faults told is_sound asked before now result
