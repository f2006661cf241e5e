-- Constraints that are filled in from the rows, and what their graph is.
use Rattle.std.proofs.Common.{◌≡◌, ℕ, ◌+◌, ◌<◌, List, length, get_or, set, Bool, refl, sym, ap, ◌∙◌, arith, inl, inr, false}
use Rattle.std.proofs.lemmas.Bool.{cases_eq}
use Rattle.std.proofs.lemmas.Grind.{get_or-set_at}
use Rattle.std.proofs.lemmas.List.{get_or-set_other, length-set}
use Rattle.std.specs.Prelude.{slice_index}
use Rattle.dm_base.specs.declared.ids.ActId.{ActId}
use Rattle.dm_graph.specs.Arcs.{Binds, BindsIn}
use Rattle.dm_graph.specs.Graph.{AsksNoMore}
use Rattle.dm_graph.proofs.Timetables.{same_is_least_alike}
use Rattle.dm_graph.proofs.Transfers.{cycle_carries}
use Rattle.dm_network.specs.Net.{Net, EndsAreKnown}
use Rattle.dm_network.specs.Held.{arcs_of, is_held, HasNoCycleOf, ShowsCycleOf}
use Rattle.dm_network.proofs.Holding.{binds_with}
use Rattle.dm_rows.specs.Active.{is_active, HasNoCycle}
use Rattle.dm_rows.specs.Rows.{RowsValue}
use Rattle.dm_rows.specs.Timetable.{IsLeast, IsLeastHolding, span_of, graph_holding}
use Rattle.dm_rows.specs.Laws.{EntersNoPassed}
use Rattle.dm_rows.proofs.AsGraph.{least_from_graph, active_enter_no_passed}
use Rattle.dm_settle.specs.Constraints.{ConstraintsValue, arcs_given, graph_given}
use Rattle.dm_settle.specs.Settling.{AreLeast}
use Rattle.dm_settle.specs.Constraints.{RefusesTimes as RefusesGiven}
use Rattle.dm_settle.specs.declared.faults.NoTimes.{NoTimes}
use Rattle.dm_settle.specs.declared.faults.NoTimes.TheVariants.{Cycle, OutOfMemory}
use Rattle.dm_times.specs.Faults.{RefusesHolding}
use Rattle.dm_times.specs.Constraints.{AreConstraintsHolding, AreConstraintsOf}
use Rattle.dm_times.specs.Inside.Filling.{ActivitiesTo}

-- the first n items are by a function, and so is the next one that is set
one_more : {A : Type 0} (xs : List A) (d v : A) (f : ℕ → A) (n : ℕ) → n < length xs → ((k : ℕ) → k < n → get_or xs k d ≡ f k) →
    v ≡ f n → (k : ℕ) → k < n + 1 → get_or (set xs n v) k d ≡ f k
one_more xs d v f n below each is k lt =
    elim (cases_eq k n) [
      | inl same ↦ get_or-set_at xs n k v d same below ∙ is ∙ ap f (sym same)
      | inr other ↦ get_or-set_other xs n k v d other ∙ each k (omega arith)
    ]

-- the next activity is held or not, and then has its span
pub activities_next : (net : Net) (rows : RowsValue) (held : ℕ → Bool) (n : ℕ) (before now : ConstraintsValue) (b : Bool) (span : ℕ) →
    n < length before.held → n < length before.spans → b ≡ held n → span ≡ span_of net rows n → ActivitiesTo net rows held n before now →
    ActivitiesTo net rows held (n + 1) before (record now { held = set now.held n b; spans = set now.spans n span })
activities_next net rows held n before now b span below within is span_is h =
    record {
      flags = length-set now.held n b ∙ h.flags;
      as_many_spans = length-set now.spans n span ∙ h.as_many_spans;
      held = one_more now.held false b held n (let size = h.flags in omega arith) h.held is;
      spans = one_more now.spans 0 span (span_of net rows) n (let size = h.as_many_spans in omega arith) h.spans span_is;
      floors = h.floors;
    }

-- the graph of the constraints is that of the rows
module _ (net : Net) (rows : RowsValue) (held : ℕ → Bool) (given : ConstraintsValue) (are : AreConstraintsHolding net rows held given) where
  there : (a : ℕ) → Binds (arcs_given net given) a → BindsIn (arcs_given net given) (arcs_of net held) a
  there = binds_with net (is_held given.held) held (λ a below holds. sym (are.held a below) ∙ holds)

  back : (a : ℕ) → Binds (arcs_of net held) a → BindsIn (arcs_of net held) (arcs_given net given) a
  back = binds_with net held (is_held given.held) (λ a below holds. are.held a below ∙ holds)

  asks_no_more : AsksNoMore (graph_given net given) (graph_holding net rows held)
  asks_no_more = record {
    same_events = refl;
    floors = λ e lt. let is = are.floors e lt in omega arith;
    binds = there;
    spans = λ a b. let is = are.spans a b.is_arc in omega arith;
  }

  asks_no_less : AsksNoMore (graph_holding net rows held) (graph_given net given)
  asks_no_less = record {
    same_events = refl;
    floors = λ e lt. let is = are.floors e lt in omega arith;
    binds = back;
    spans = λ a b. let is = are.spans a b.is_arc in omega arith;
  }

  -- what is least for the constraints is least for the rows
  pub least_for_held : (times : List ℕ) → EndsAreKnown net → EntersNoPassed net rows held → AreLeast (graph_given net given) times →
      IsLeastHolding net rows held times
  least_for_held times known enters l =
      least_from_graph net rows held times known l.as_many enters
      (same_is_least_alike (graph_given net given) (graph_holding net rows held) (slice_index times) asks_no_more asks_no_less l.least)

  pub no_cycle_of_held : HasNoCycleOf net (is_held given.held) → HasNoCycleOf net held
  no_cycle_of_held none cycle c = none cycle (cycle_carries (arcs_of net held) (arcs_given net given) back cycle c)

  pub shows_cycle_of_held : (ids : List ActId) → ShowsCycleOf net (is_held given.held) ids → ShowsCycleOf net held ids
  shows_cycle_of_held ids s = record {
    places = s.places;
    is_cycle = cycle_carries (arcs_given net given) (arcs_of net held) there s.places s.is_cycle;
    named = s.named;
  }

-- why the constraints have no times is why the rows have none
pub refused_for_held : (net : Net) (rows : RowsValue) (held : ℕ → Bool) (given : ConstraintsValue) → AreConstraintsHolding net rows held given →
    (fault : NoTimes) → RefusesGiven net given fault → RefusesHolding net held fault
refused_for_held net rows held given are (Cycle ids) h = shows_cycle_of_held net rows held given are ids h
refused_for_held net rows held given are OutOfMemory h = tt

-- and so where the active activities are held
pub least_for_rows : (net : Net) (rows : RowsValue) (given : ConstraintsValue) → AreConstraintsOf net rows given → (times : List ℕ) →
    EndsAreKnown net → AreLeast (graph_given net given) times → IsLeast net rows times
least_for_rows net rows given are times known l =
    least_for_held net rows (is_active net rows) given are times known (active_enter_no_passed net rows) l

pub no_cycle_of_rows : (net : Net) (rows : RowsValue) (given : ConstraintsValue) → AreConstraintsOf net rows given →
    HasNoCycleOf net (is_held given.held) → HasNoCycle net rows
no_cycle_of_rows net rows given are none = no_cycle_of_held net rows (is_active net rows) given are none
