-- How the rows' own definitions stand to the general theory of graphs, to what binds at the start, and to one another.
use Rattle.std.specs.Prelude.{ℕ, ◌≡◌, ◌<◌, ◌≤◌, ◌↔◌, ◌⊎◌, Bool, IsTrue, List, length, Some, None, All, IsSome, Contains}
use Rattle.dm_graph.specs.Graph.{Meets as MeetsGraph, IsLeast as IsLeastOfGraph}
use Rattle.dm_network.specs.Net.{Net, EndsAreKnown, activity_at}
use Rattle.dm_network.specs.Held.{HasNoCycleOf}
use Rattle.dm_base.specs.declared.rows.DelayRow.{DelayRow}
use Rattle.dm_network.specs.Start.{IsFormed, IsNetwork, is_start_active}
use Rattle.dm_rows.specs.Rows.{RowsValue, passed_at, start_rows_of, start_rows_without}
use Rattle.dm_rows.specs.declared.messages.Decision.{Decision}
use Rattle.dm_rows.specs.declared.messages.Message.TheVariants.{Adopt}
use Rattle.dm_rows.specs.Active.{is_active}
use Rattle.dm_rows.specs.Decide.{free_choices_of, choice_of, with_decisions}
use Rattle.dm_rows.specs.Refuse.{PassesDecision}
use Rattle.dm_rows.specs.Relax.{is_relaxed_active}
use Rattle.dm_rows.specs.Resolve.{flip_named, after}
use Rattle.dm_rows.specs.Timetable.{MeetsHolding, IsLeastHolding, Meets, IsLeast, graph_holding, graph_of, span_of, time_at}

-- each passed event has its passed time
abbrev pub KeepsPassed : Net → RowsValue → (ℕ → ℕ) → Type 0
KeepsPassed net rows x = (i t : ℕ) → i < length net.events → passed_at rows i ≡ Some t → x i ≡ t

-- no held activity enters an event that has passed
abbrev pub EntersNoPassed : Net → RowsValue → (ℕ → Bool) → Type 0
EntersNoPassed net rows held =
    (a : ℕ) → a < length net.activities → IsTrue (held a) → passed_at rows (activity_at net a).head ≡ None

-- Each activity of a formed network binds at the start, or is a headway and so takes at least a second whatever its
-- delay. So a cycle of a network takes time.
abbrev pub BindsAtStartOrTakesTime : Type 0
BindsAtStartOrTakesTime =
    (net : Net) (rows : RowsValue) (a : ℕ) → IsFormed net → a < length net.activities →
    IsTrue (is_start_active net a) ⊎ (1 ≤ span_of net rows a)

-- Some timetable meets the rows holding some of a network's activities, of which none enters a passed event, exactly where
-- these have no cycle.
abbrev pub MetExactlyWithoutCycle : Type 0
MetExactlyWithoutCycle =
    (net : Net) (rows : RowsValue) (held : ℕ → Bool) → IsNetwork net → EntersNoPassed net rows held →
    ((x : List ℕ) × MeetsHolding net rows held x) ↔ HasNoCycleOf net held

-- Where they have no cycle, a timetable is least for the rows holding them.
abbrev pub LeastExistsWithoutCycle : Type 0
LeastExistsWithoutCycle =
    (net : Net) (rows : RowsValue) (held : ℕ → Bool) → EndsAreKnown net → EntersNoPassed net rows held →
    HasNoCycleOf net held → (x : List ℕ) × IsLeastHolding net rows held x

-- What binds in the relaxed problem of a path enters no passed event either.
abbrev pub RelaxedEnterNoPassed : Type 0
RelaxedEnterNoPassed =
    (net : Net) (rows : RowsValue) (path : List Decision) →
    EntersNoPassed net (with_decisions net rows path) (is_relaxed_active net rows path)

-- An `Adopt` whose decisions all name something sets each of them.
abbrev pub AdoptSetsDecisions : Type 0
AdoptSetsDecisions =
    (net : Net) (rows : RowsValue) (decisions : List Decision) → All (λ d. IsSome (flip_named net d)) decisions →
    after net rows (Adopt decisions) ≡ with_decisions net rows decisions

-- What is active enters no passed event.
abbrev pub ActiveEnterNoPassed : Type 0
ActiveEnterNoPassed = (net : Net) (rows : RowsValue) → EntersNoPassed net rows (is_active net rows)

-- A timetable of the network's size meets the rows holding some of the activities exactly where it meets their graph and
-- keeps the passed times.
abbrev pub MeetsHoldingAsGraph : Type 0
MeetsHoldingAsGraph =
    (net : Net) (rows : RowsValue) (held : ℕ → Bool) (x : List ℕ) → EndsAreKnown net → length x ≡ length net.events →
    MeetsHolding net rows held x ↔ (MeetsGraph (graph_holding net rows held) (time_at x) × KeepsPassed net rows (time_at x))

-- It is least for them exactly where it is least for their graph, if none that is held enters a passed event.
abbrev pub LeastHoldingAsGraph : Type 0
LeastHoldingAsGraph =
    (net : Net) (rows : RowsValue) (held : ℕ → Bool) (x : List ℕ) → EndsAreKnown net → length x ≡ length net.events →
    EntersNoPassed net rows held →
    IsLeastHolding net rows held x ↔ IsLeastOfGraph (graph_holding net rows held) (time_at x)

-- a timetable of the network's size meets the rows exactly where it meets their graph and keeps the passed times
abbrev pub MeetsAsGraph : Type 0
MeetsAsGraph =
    (net : Net) (rows : RowsValue) (x : List ℕ) → EndsAreKnown net → length x ≡ length net.events →
    Meets net rows x ↔ (MeetsGraph (graph_of net rows) (time_at x) × KeepsPassed net rows (time_at x))

-- a timetable of the network's size is least for the rows exactly where it is least for their graph
abbrev pub LeastAsGraph : Type 0
LeastAsGraph =
    (net : Net) (rows : RowsValue) (x : List ℕ) → EndsAreKnown net → length x ≡ length net.events →
    IsLeast net rows x ↔ IsLeastOfGraph (graph_of net rows) (time_at x)

-- what is active under the start rows binds at the start, whatever their delays and whichever events are cancelled
abbrev pub ActiveAtStartBinds : Type 0
ActiveAtStartBinds =
    (net : Net) (events activities : List DelayRow) (ids : List ℕ) (a : ℕ) → IsFormed net → a < length net.activities →
    IsTrue (is_active net (start_rows_without net events activities ids) a) → IsTrue (is_start_active net a)

-- Of a network without a double id, a choice is free exactly where nothing refuses its decisions at once: so only a cycle or a
-- full history may.
abbrev pub FreeWhereNothingRefuses : Type 0
FreeWhereNothingRefuses =
    (net : Net) (rows : RowsValue) (d : Decision) → IsNetwork net →
    Contains (free_choices_of net rows) (choice_of d) ↔ PassesDecision net rows d

-- what binds at the start is what is active under the start rows, whatever their delays, where no event is cancelled
abbrev pub StartActivityAgrees : Type 0
StartActivityAgrees =
    (net : Net) (events activities : List DelayRow) (a : ℕ) → IsFormed net → a < length net.activities →
    is_start_active net a ≡ is_active net (start_rows_of net events activities) a
