-- The network that the records of a day make: what binds at the start leads to later events, so that it has no cycle.
use Rattle.std.proofs.Common.{ℕ, ◌≡◌, ◌≤◌, ◌<◌, ◌⊎◌, inl, inr, Bool, true, false, cond, List, map, length, Option, Some, None, refl, sym, ap, ◌∙◌, subst, arith, get_or, leb}
use Rattle.std.specs.Prelude.{IsSome, IsTrue}
use Rattle.std.proofs.lemmas.Bool.{cases_lt, eqb-true, leb-true, leb-false}
use Rattle.std.proofs.lemmas.List.{get_or-map, length-map}
use Rattle.std.proofs.lemmas.List.Quantifiers.{position-Some}
use Rattle.std.proofs.lemmas.List.Sorted.{All-permutation, Contains-permutation}
use Rattle.dm_base.specs.declared.rows.EventRow.{EventRow}
use Rattle.dm_base.specs.declared.rows.ActRow.{ActRow}
use Rattle.dm_graph.proofs.Chains.{Rises, no_cycle_where_rank_rises}
use Rattle.dm_network.specs.Build.{event_row, activity_row, IsMadeOf}
use Rattle.dm_network.specs.Held.{arcs_of}
use Rattle.dm_network.specs.Net.{Net, event_at, activity_at, pair_at, no_event, no_activity, no_pair, is_headway}
use Rattle.dm_network.specs.Pairs.{FormPair, IsHeadwayFrom, joins, pair_place}
use Rattle.dm_network.specs.Start.{IsStartCycle, binds_at_start, first_event, is_start_active, starts_small_first}
use Rattle.dm_network.proofs.Keys.{rises_between}
use Rattle.dm_network.proofs.PairKeys.{joins-true}
use Rattle.dm_gen.specs.declared.links.Link.{Link}
use Rattle.dm_gen.specs.Trains.{events_of}
use Rattle.dm_gen.specs.Activities.{with_id, links_of, activities_of}
use Rattle.dm_gen.proofs.Timed.{scheduled, IsTimed, all_timed}
use Rattle.dm_gen.proofs.Joined.{opposite, LeadsBothWays, IsRowOf, all_rows, has_row}

-- of two events that form a pair, the one that goes first is not later
first_is_no_later : (time : ℕ → ℕ) (small large tail head : ℕ) (b : Bool) → b ≡ leb (time small) (time large) → tail ≡ cond b small large
    → ((small ≡ tail) × (large ≡ head)) ⊎ ((small ≡ head) × (large ≡ tail)) → time tail ≤ time head
first_is_no_later time small large tail head true is first (inl same) =
    let order = leb-true (time small) (time large) (sym is) in
    let one = ap time same.0 in
    let two = ap time same.1 in
    omega arith
first_is_no_later time small large tail head true is first (inr same) =
    let one : time tail ≡ time head = ap time (first ∙ same.0) in
    omega arith
first_is_no_later time small large tail head false is first (inl same) =
    let one : time tail ≡ time head = ap time (first ∙ same.1) in
    omega arith
first_is_no_later time small large tail head false is first (inr same) =
    let order = leb-false (time small) (time large) (sym is) in
    let one = ap time same.0 in
    let two = ap time same.1 in
    omega arith

some_of : (o : Option ℕ) → IsSome o → (x : ℕ) × (o ≡ Some x)
some_of None h = cc
some_of (Some x) h = (x, refl)

module _ (trains : ℕ) (net : Net) (made : IsMadeOf (events_of trains) (activities_of trains) net) where
  event_timed : (i : ℕ) → i < length net.events → (event_at net i).time ≡ scheduled (event_at net i).id.0
  event_timed i low =
      let none : EventRow = event_row no_event in
      let all = All-permutation (IsTimed trains) (events_of trains) (map event_row net.events) made.same_events (all_timed trains) in
      let here : IsTimed trains (get_or (map event_row net.events) i none) = all i none (omega (arith, length-map net.events event_row)) in
      subst (λ (r : EventRow). r.time ≡ scheduled r.id.0) (get_or-map event_row net.events i no_event none low) here.scheduled

  row_of : (a : ℕ) → a < length net.activities → IsRowOf trains (activity_row net (activity_at net a))
  row_of a low =
      let none : ActRow = activity_row net no_activity in
      let rows = map (activity_row net) net.activities in
      let all = All-permutation (IsRowOf trains) (activities_of trains) rows made.same_activities (all_rows trains) in
      let here : IsRowOf trains (get_or rows a none) = all a none (omega (arith, length-map net.activities (activity_row net))) in
      subst (IsRowOf trains) (get_or-map (activity_row net) net.activities a no_activity none low) here

  same_place : (i j : ℕ) → i < length net.events → j < length net.events → (event_at net i).id.0 ≡ (event_at net j).id.0 → i ≡ j
  same_place i j in_i in_j same =
      let ids : List ℕ = map (λ e. e.id.0) net.events in
      let size : length ids ≡ length net.events = length-map net.events (λ e. e.id.0) in
      let at_i : get_or ids i 0 ≡ (event_at net i).id.0 = get_or-map (λ e. e.id.0) net.events i no_event 0 in_i in
      let at_j : get_or ids j 0 ≡ (event_at net j).id.0 = get_or-map (λ e. e.id.0) net.events j no_event 0 in_j in
      elim (cases_lt i j) [
        | inl before ↦ absurd (omega (arith, rises_between ids made.formed.events_ascend i j before (omega arith)))
        | inr not_before ↦
            elim (cases_lt j i) [
              | inl behind ↦ absurd (omega (arith, rises_between ids made.formed.events_ascend j i behind (omega arith)))
              | inr not_behind ↦ omega arith
            ]
      ]

  -- the opposite of a headway
  back_from : (a id : ℕ) (link : Link) → a < length net.activities → activity_row net (activity_at net a) ≡ with_id id link → LeadsBothWays (links_of trains) link
      → (b : ℕ) × IsHeadwayFrom net (activity_at net a).head (activity_at net a).tail b
  back_from a id link low is both =
      let other = has_row trains (opposite link) both.back in
      let row : ActRow = with_id other.0 (opposite link) in
      let rows = map (activity_row net) net.activities in
      let there = Contains-permutation (activities_of trains) rows row made.same_activities other.1 in
      let size : length rows ≡ length net.activities = length-map net.activities (activity_row net) in
      let in' : there.0 < length net.activities = omega (arith, there.1) in
      let that : activity_row net (activity_at net there.0) ≡ row =
      sym (get_or-map (activity_row net) net.activities there.0 no_activity row in') ∙ there.2 in
      let known = made.formed.ends_are_known in (
        there.0,
        record {
          is_activity = in';
          headway = ap (λ (r : ActRow). is_headway r.kind) that ∙ both.headway;
          tail = same_place (activity_at net there.0).tail (activity_at net a).head (known.tails there.0 in') (known.heads a low)
              (ap (λ (r : ActRow). r.tail.0) that ∙ sym (ap (λ (r : ActRow). r.head.0) is));
          head = same_place (activity_at net there.0).head (activity_at net a).tail (known.heads there.0 in') (known.tails a low)
              (ap (λ (r : ActRow). r.head.0) that ∙ sym (ap (λ (r : ActRow). r.tail.0) is));
        },
      )

  -- a headway that binds at the start leads to no earlier event
  headway_no_later : (a : ℕ) → a < length net.activities → is_headway (activity_at net a).kind ≡ true → FormPair net (activity_at net a).tail (activity_at net a).head
      → IsTrue (is_start_active net a) → (event_at net (activity_at net a).tail).time ≤ (event_at net (activity_at net a).head).time
  headway_no_later a low headway form held =
      let tail : ℕ = (activity_at net a).tail in
      let head : ℕ = (activity_at net a).head in
      let place = some_of (pair_place net tail head) ((made.formed.is_paired.exact tail head).1 form) in
      let p : ℕ = place.0 in
      let pair : (activity_at net a).pair ≡ Some p =
      made.formed.is_paired.belongs a low ∙ ap (λ b. cond b (pair_place net tail head) None) headway ∙ place.1 in
      let binds : IsTrue (binds_at_start net (Some p) tail) = subst (λ (q : Option ℕ). IsTrue (binds_at_start net q tail)) pair held in
      let at = position-Some (λ q. joins q tail head) net.pairs p no_pair place.1 in
      first_is_no_later (λ i. (event_at net i).time) (pair_at net p).small (pair_at net p).large tail head (starts_small_first net p) refl
      (eqb-true tail (first_event net p (starts_small_first net p)) binds)
      (joins-true (pair_at net p) tail head at.1)

  rises : Rises (arcs_of net (is_start_active net)) (λ i. (event_at net i).time)
  rises a binds =
      let r = row_of a binds.is_arc in
      let tail : ℕ = (activity_at net a).tail in
      let head : ℕ = (activity_at net a).head in
      let tail_is : (event_at net tail).time ≡ scheduled r.link.tail.0 =
      event_timed tail binds.from_event ∙ ap (λ (x : ActRow). scheduled x.tail.0) r.is in
      let head_is : (event_at net head).time ≡ scheduled r.link.head.0 =
      event_timed head binds.to_event ∙ ap (λ (x : ActRow). scheduled x.head.0) r.is in
      elim r.of.leads [
        | inl on ↦ omega (arith, on.later, tail_is, head_is)
        | inr both ↦
            let headway : is_headway (activity_at net a).kind ≡ true = ap (λ (x : ActRow). is_headway x.kind) r.is ∙ both.headway in
            let apart : (event_at net tail).time ≡ (event_at net head).time → ⊥ = λ same. both.apart (sym tail_is ∙ same ∙ head_is) in
            let form : FormPair net tail head = (
              λ same. apart (ap (λ i. (event_at net i).time) same),
              (a, record { is_activity = binds.is_arc; headway = headway; tail = refl; head = refl }),
              back_from a r.id r.link binds.is_arc r.is both,
            ) in
            let order = headway_no_later a binds.is_arc headway form binds.is_held in
            elim (cases_lt (event_at net tail).time (event_at net head).time) [
              | inl later ↦ later
              | inr same ↦ absurd (apart (omega arith))
            ]
      ]

  pub no_start_cycle : (cycle : List ℕ) → IsStartCycle net cycle → ⊥
  no_start_cycle cycle is = no_cycle_where_rank_rises (arcs_of net (is_start_active net)) (λ i. (event_at net i).time) rises cycle is
