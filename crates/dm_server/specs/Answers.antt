-- What a server answers, at the history that a pass has then seen.
use Rattle.std.specs.Prelude.{ℕ, ◌≡◌, ◌<◌, ◌≤◌, Bool, List, [], ◌∷◌, ◌++◌, length, Some}
use mathlib.Core.List.{IsPrefix}
use Rattle.dm_base.specs.declared.ids.EventId.{EventId}
use Rattle.dm_base.specs.declared.limits.TheConstants.{ENTRIES}
use Rattle.dm_rows.specs.declared.messages.Decision.{Decision}
use Rattle.dm_rows.specs.declared.messages.Entry.{Entry}
use Rattle.dm_rows.specs.declared.messages.Message.{Message}
use Rattle.dm_rows.specs.declared.messages.Message.TheVariants.{Adopt}
use Rattle.dm_rows.specs.declared.messages.Refusal.{Refusal}
use Rattle.dm_rows.specs.declared.messages.Refusal.TheVariants.{OutOfMemory}
use Rattle.dm_rows.specs.Carry.{free_among}
use Rattle.dm_rows.specs.Cost.{Costs}
use Rattle.dm_rows.specs.History.{rows_at}
use Rattle.dm_rows.specs.Refuse.{Refuses}
use Rattle.dm_rows.specs.Rows.{RowsValue}
use Rattle.dm_rows.specs.Timetable.{IsLeast}
use Rattle.dm_table.specs.Value.{TableValue}
use Rattle.dm_table.specs.Answers.{time_of}
use Rattle.dm_tree.specs.declared.adopting.Chosen.{Chosen}
use Rattle.dm_tree.specs.Plans.{MayBeAdopted}
use Rattle.dm_turn.specs.Passes.{PassValue, numbered}
use Rattle.dm_server.specs.declared.kept.Base.{Base}
use Rattle.dm_tree.specs.declared.adopting.AdoptRefusal.{AdoptRefusal}
use Rattle.dm_tree.specs.declared.adopting.AdoptRefusal.TheVariants.{Old, Full, OutOfMemory as NoMemory}

-- what of a table never changes
abbrev pub base_of : TableValue → Base
base_of table = record { network = table.network; start = table.start; penalty = table.penalty }

-- the rows after all entries of a history
abbrev pub rows_after : Base → List Entry → RowsValue
rows_after base history = rows_at base.network base.start history (length history)

-- the times are the least timetable after the history
abbrev pub AreTimesAfter : Base → List Entry → List ℕ → Type 0
AreTimesAfter base history times = IsLeast base.network (rows_after base history) times

-- these are the marks of the events that are cancelled after the history
abbrev pub AreMarksAfter : Base → List Entry → List Bool → Type 0
AreMarksAfter base history flags = flags ≡ (rows_after base history).cancelled

-- the event with this id has this time in the least timetable after the history
pub record ShowsTime (base : Base) (history : List Entry) (id : EventId) (time : ℕ) : Type 0 where
  pub times : List ℕ
  pub least : AreTimesAfter base history times
  pub shown : time_of base.network times id ≡ Some time

-- the rows after the history cost so much
abbrev pub CostsAfter : Base → List Entry → ℕ → Type 0
CostsAfter base history cost = Costs base.network (rows_after base history) base.penalty cost

-- what refuses a message after the history; want of memory may come at any time
abbrev pub RefusesAfter : Base → List Entry → Message → Refusal → Type 0
RefusesAfter base history m OutOfMemory = Unit {0}
RefusesAfter base history m r = Refuses base.network (rows_after base history) (length history) m r

-- the choices of a plan may be adopted for the rows after as many entries as it names, which the history has
pub record IsAdoptable (base : Base) (history : List Entry) (plan : Chosen) : Type 0 where
  pub within : plan.entry ≤ length history
  pub may : MayBeAdopted base.network (rows_at base.network base.start history plan.entry) plan.choices

-- why a plan is not adopted after a history: this is longer than the plan's, or as long and full; or want of memory
abbrev pub RefusesAdopt : Chosen → List Entry → AdoptRefusal → Type 0
RefusesAdopt plan history (Old now) = (now ≡ length history) × (plan.entry < now)
RefusesAdopt plan history (Full now) = (now ≡ length history) × (now ≡ ENTRIES) × (plan.entry ≡ now)
RefusesAdopt plan history NoMemory = Unit {0}

-- the entry that adopts a plan
abbrev pub adopts : Chosen → ℕ → ℕ → Entry
adopts plan feed line = record { feed = feed; line = line; message = Adopt plan.choices }

-- the entry of those of the choices that are free after a history
abbrev pub carries : Base → List Entry → List Decision → ℕ → ℕ → Entry
carries base history choices feed line =
    record {
      feed = feed;
      line = line;
      message = Adopt (free_among base.network (rows_after base history) choices);
    }

-- the pass has seen as much or more, and all else of it is as before
pub record HasLooked {B : Type 0} (before now : PassValue B) : Type 0 where
  pub later : IsPrefix before.seen now.seen
  pub same : now ≡ record before { seen = now.seen }

-- The pass has seen as much or more and then entered an entry, which is its own and has this number; all else of it is as
-- before.
pub record HasEntered {B : Type 0} (before now : PassValue B) (entry : Entry) (n : ℕ) : Type 0 where
  pub history : List Entry
  pub later : IsPrefix before.seen history
  pub number : n ≡ length (history ++ entry ∷ [])
  pub same : now ≡ record before { seen = history ++ entry ∷ []; mine = before.mine ++ numbered n entry ∷ [] }

-- The pass has seen a history and then entered this entry, which is told by the history before it.
pub record HasEnteredAfter {B : Type 0} (before now : PassValue B) (entry : List Entry → Entry) (n : ℕ) : Type 0 where
  pub history : List Entry
  pub entered : HasEntered before now (entry history) n
  pub behind : now.seen ≡ history ++ entry history ∷ []
