-- What is found answers the query.
use Rattle.std.proofs.Common.{◌≡◌, ℕ, ◌+◌, ◌<◌, ◌≤◌, Bool, true, false, List, [], ◌∷◌, length, map, Option, Some, None, refl, sym, ap, subst, ◌∙◌, arith, get_or, cond}
use Rattle.std.specs.Prelude.{is_some, ◌↔◌}
use Rattle.std.specs.List.{All, Any, range_with_len}
use Rattle.std.proofs.lemmas.List.FromFn.{get_or-map-range_with_len}
use Rattle.dm_base.specs.declared.ids.StopId.{StopId}
use Rattle.dm_base.specs.declared.rows.EventKind.{EventKind}
use Rattle.dm_base.specs.declared.rows.EventKind.TheVariants.{Departure, Arrival}
use Rattle.dm_graph.specs.Arcs.{Arcs, Binds, Chain}
use Rattle.dm_network.specs.Net.{Net, event_at, activity_at}
use Rattle.dm_network.specs.Held.{arcs_of, is_held}
use Rattle.dm_rows.specs.Rows.{RowsValue}
use Rattle.dm_rows.specs.Cost.{is_arrival}
use Rattle.dm_journey.specs.declared.arriving.Journey.{Journey}
use Rattle.dm_journey.specs.declared.reaching.Reach.{Reach}
use Rattle.dm_journey.specs.Walks.{is_usable, usable_arcs, is_departure, departs, arrives, changes_in, IsWalk}
use Rattle.dm_journey.specs.Journeys.{IsJourney, IsNoWorse, AreJourneys, HasNoWalk}
use Rattle.dm_journey.specs.Inside.Reaching.{reach_at, beginning, boarding_at, changes_of, IsBeginning, IsWithin, IsExactly, ComesBy, Comes, AreReached, HasReachedAll}
use Rattle.dm_journey.specs.Inside.Arriving.{IsFound, AreFound}
use Rattle.dm_journey.proofs.Chosen.{and_parts}
use Rattle.dm_journey.proofs.Traced.{changes_in-cons}
use Rattle.dm_journey.proofs.WithoutCycle.{flags_are}

-- how a departure is reached at first
beginning_if : (b : Bool) → IsBeginning (cond b (Some beginning) None)
beginning_if true = refl
beginning_if false = tt

some_if : (b : Bool) → is_some (cond b (Some beginning) None) ≡ true → b ≡ true
some_if true is = refl
some_if false is = cc

within_if : (b : Bool) → b ≡ true → IsWithin (cond b (Some beginning) None) 0
within_if true is = omega arith
within_if false is = cc

-- no event is a departure and an arrival
never_both : (kind : EventKind) → is_departure kind ≡ true → is_arrival kind ≡ true → ⊥
never_both Departure departure arrival = cc
never_both Arrival departure arrival = cc

-- a chain that leaves an event leads to an event
chain_end : (g : Arcs) (i : ℕ) (walk : List ℕ) (j : ℕ) → i < g.events → Chain g i walk j → j < g.events
chain_end g i [] j is_event chain = let same : i ≡ j = chain in omega arith
chain_end g i (a ∷ rest) j is_event chain = chain_end g (g.head a) rest j chain.0.to_event chain.2

chain_begin : (g : Arcs) (i : ℕ) (walk : List ℕ) (j : ℕ) → 0 < length walk → Chain g i walk j → i < g.events
chain_begin g i [] j some chain = absurd (omega arith)
chain_begin g i (a ∷ rest) j some chain = let e = chain.0.from_event in let same = chain.1 in omega arith

-- what is reached with at most so many changes is reached with some number of them
pub record IsReachedWith (reach : Option Reach) (n : ℕ) : Type 0 where
  pub changes : ℕ
  pub exactly : IsExactly reach changes
  pub few : changes ≤ n

within_is_some : (reach : Option Reach) (n : ℕ) → IsWithin reach n → IsReachedWith reach n
within_is_some None n within = absurd within
within_is_some (Some r) n within = record { changes = r.changes; exactly = refl; few = within }

module _ (net : Net) (rows : RowsValue) (x : List ℕ) (from to : StopId) (after most : ℕ) (flags : List Bool) (ranks : List ℕ) (before now : List (Option Reach))
    (flags_is : flags ≡ map (is_usable net rows x) (range_with_len 0 (length net.activities)))
    (before_is : before ≡ map (boarding_at net x from after) (range_with_len 0 (length net.events)))
    (has : HasReachedAll net flags ranks most before now) where
  first_is : (e : ℕ) → e < length net.events → reach_at before e ≡ boarding_at net x from after e
  first_is e is_event =
      ap (λ (xs : List (Option Reach)). reach_at xs e) before_is
      ∙ get_or-map-range_with_len (boarding_at net x from after) 0 (length net.events) e e None is_event (omega arith)

  begins_of : (e : ℕ) → e < length net.events → is_some (reach_at before e) ≡ true → departs net x from after e ≡ true
  begins_of e is_event is = some_if (departs net x from after e) (ap is_some (sym (first_is e is_event)) ∙ is)

  binds_of : (a : ℕ) → Binds (arcs_of net (is_held flags)) a → Binds (usable_arcs net rows x) a
  binds_of a binds = record {
    is_arc = binds.is_arc;
    is_held = sym (flags_are net (is_usable net rows x) flags flags_is a binds.is_arc) ∙ binds.is_held;
    from_event = binds.from_event;
    to_event = binds.to_event;
  }

  binds_back : (a : ℕ) → Binds (usable_arcs net rows x) a → Binds (arcs_of net (is_held flags)) a
  binds_back a binds = record {
    is_arc = binds.is_arc;
    is_held = flags_are net (is_usable net rows x) flags flags_is a binds.is_arc ∙ binds.is_held;
    from_event = binds.from_event;
    to_event = binds.to_event;
  }

  comes_by_of : (e n : ℕ) (by : Option ℕ) → e < length net.events →
      ComesBy net (λ i. is_some (reach_at before i)) (is_held flags) ranks now e n by →
      ComesBy net (departs net x from after) (is_usable net rows x) ranks now e n by
  comes_by_of e n None is_event comes = (begins_of e is_event comes.0, comes.1)
  comes_by_of e n (Some a) is_event comes = record {
    binds = binds_of a comes.binds;
    enters = comes.enters;
    earlier = comes.earlier;
    counted = comes.counted;
  }

  comes_of : (e : ℕ) (reach : Option Reach) → e < length net.events →
      Comes net (λ i. is_some (reach_at before i)) (is_held flags) ranks now e reach →
      Comes net (departs net x from after) (is_usable net rows x) ranks now e reach
  comes_of e None is_event comes = comes
  comes_of e (Some r) is_event comes = comes_by_of e r.changes r.by is_event comes

  are_reached : AreReached net (departs net x from after) (is_usable net rows x) ranks now
  are_reached = record {
    as_many = has.reached.as_many;
    comes = λ e is_event. comes_of e (reach_at now e) is_event (has.reached.comes e is_event);
  }

  -- along usable activities, each event of a walk is reached with no more changes
  reaches_on : (i : ℕ) (walk : List ℕ) (j n : ℕ) → Chain (usable_arcs net rows x) i walk j → IsWithin (reach_at now i) n →
      n + changes_in net walk ≤ most → IsWithin (reach_at now j) (n + changes_in net walk)
  reaches_on i [] j n chain within few =
      let none : n ≡ n + changes_in net [] = omega arith in
      subst (λ (e : ℕ). IsWithin (reach_at now e) (n + changes_in net [])) chain (subst (IsWithin (reach_at now i)) none within)
  reaches_on i (a ∷ rest) j n chain within few =
      let count = changes_in-cons net a rest in
      let all : (n + changes_of net a) + changes_in net rest ≡ n + changes_in net (a ∷ rest) = omega arith in
      let tail : IsWithin (reach_at now (activity_at net a).tail) n = subst (λ (e : ℕ). IsWithin (reach_at now e) n) (sym chain.1) within in
      let head = (has.well (activity_at net a).head chain.0.to_event).along a (binds_back a chain.0) refl n tail (omega arith) in
      subst (IsWithin (reach_at now j)) all
      (reaches_on (activity_at net a).head rest j (n + changes_of net a) chain.2 head (omega arith))

  walk_is_met : (answer : List Journey) → AreFound net x to ranks now (most + 1) answer → (walk : List ℕ) (arrival changes : ℕ) →
      IsWalk net rows x from to after walk arrival changes → changes ≤ most → Any (IsNoWorse arrival changes) answer
  walk_is_met answer found walk arrival changes w few =
      let first = chain_begin (usable_arcs net rows x) w.first walk w.last w.not_empty w.leads in
      let last = chain_end (usable_arcs net rows x) w.first walk w.last first w.leads in
      let begun : IsWithin (reach_at before w.first) 0 =
      subst (λ (r : Option Reach). IsWithin r 0) (sym (first_is w.first first)) (within_if (departs net x from after w.first) w.begins) in
      let within = reaches_on w.first walk w.last 0 w.leads ((has.well w.first first).at_least 0 begun) (let count = w.counted in omega arith) in
      let with = within_is_some (reach_at now w.last) (0 + changes_in net walk) within in
      let fewer = with.few in
      let counted = w.counted in
      let at = w.arrives_at in
      let any = found.meets_each w.last with.changes (omega arith) (record { is_event = last; arrival = w.ends; exactly = with.exactly }) in
      let early = any.4.no_later in
      let no_more = any.4.no_more in
      (any.0, any.1, any.2, any.3, record { no_later = omega arith; no_more = omega arith })

  -- a walk from a departure to an arrival has an activity
  not_empty : (first : ℕ) (walk : List ℕ) (last : ℕ) → Chain (usable_arcs net rows x) first walk last → departs net x from after first ≡ true →
      arrives net to last ≡ true → 0 < length walk
  not_empty first [] last chain begins ends =
      let kind : is_departure (event_at net first).kind ≡ true = (and_parts _ _ (and_parts _ _ begins).0).0 in
      let there : is_arrival (event_at net first).kind ≡ true =
      ap (λ (e : ℕ). is_arrival (event_at net e).kind) chain ∙ (and_parts _ _ ends).0 in
      absurd (never_both (event_at net first).kind kind there)
  not_empty first (a ∷ rest) last chain begins ends = omega arith

  found_is_journey : (journey : Journey) → IsFound net (departs net x from after) (is_usable net rows x) x to (most + 1) journey →
      IsJourney net rows x from to after most journey
  found_is_journey journey f = record {
    is_walk = record {
      first = f.traced.first;
      last = f.last;
      not_empty = not_empty f.traced.first journey.walk f.last f.traced.leads f.traced.starts f.arrival;
      leads = f.traced.leads;
      begins = f.traced.starts;
      ends = f.arrival;
      arrives_at = f.arrives_at;
      counted = f.traced.counted;
    };
    few = let few = f.few in omega arith;
  }

  pub answers : (answer : List Journey) → AreFound net x to ranks now (most + 1) answer → AreJourneys net rows x from to after most answer
  answers answer found = record {
    walks = λ k d below. found_is_journey (get_or answer k d) (found.found (departs net x from after) (is_usable net rows x) are_reached k d below);
    trade = found.trade;
    meets_each = walk_is_met answer found;
  }

-- there is no journey exactly where there is no walk
empty_of : (net : Net) (rows : RowsValue) (x : List ℕ) (from to : StopId) (after most : ℕ) (answer : List Journey) →
    All (IsJourney net rows x from to after most) answer → HasNoWalk net rows x from to after most → answer ≡ []
empty_of net rows x from to after most [] walks none = refl
empty_of net rows x from to after most (j ∷ rest) walks none =
    let first = walks 0 j (omega arith) in
    absurd (none j.walk j.arrival j.changes first.is_walk first.few)

none_in_empty : (P : Journey → Type 0) (answer : List Journey) → answer ≡ [] → Any P answer → ⊥
none_in_empty P answer is any = let below = any.2 in let size : length answer ≡ 0 = ap length is in omega arith

pub none_exactly : (net : Net) (rows : RowsValue) (x : List ℕ) (from to : StopId) (after most : ℕ) (answer : List Journey) →
    AreJourneys net rows x from to after most answer → (answer ≡ []) ↔ HasNoWalk net rows x from to after most
none_exactly net rows x from to after most answer are = (
  λ is walk arrival changes w few. none_in_empty _ answer is (are.meets_each walk arrival changes w few),
  λ none. empty_of net rows x from to after most answer are.walks none,
)

-- the departures are beginnings
pub are_beginnings : (net : Net) (x : List ℕ) (from : StopId) (after : ℕ) (before : List (Option Reach)) →
    before ≡ map (boarding_at net x from after) (range_with_len 0 (length net.events)) → (e : ℕ) → e < length net.events → IsBeginning (reach_at before e)
are_beginnings net x from after before is e is_event =
    subst IsBeginning
    (sym (ap (λ (xs : List (Option Reach)). reach_at xs e) is ∙ get_or-map-range_with_len (boarding_at net x from after) 0 (length net.events) e e None is_event (omega arith)))
    (beginning_if (departs net x from after e))
