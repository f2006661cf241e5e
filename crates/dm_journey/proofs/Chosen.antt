-- Choosing the journeys among the arrivals that are reached.
use Rattle.std.proofs.Common.{◌≡◌, ℕ, ◌+◌, ◌<◌, ◌≤◌, Bool, true, false, List, [], ◌∷◌, ◌++◌, length, Option, Some, None, refl, sym, subst, ◌∙◌, inl, inr, arith, eq-eqb, eqb-true}
use Rattle.std.specs.Prelude.{◌&&◌}
use Rattle.std.specs.List.{All, Any}
use Rattle.std.proofs.lemmas.Bool.{cases_lt}
use Rattle.std.proofs.lemmas.List.{get_or_append_left, length-append}
use Rattle.std.proofs.lemmas.List.Elements.{All-append, All-nil, All-cons}
use Rattle.std.proofs.lemmas.List.Quantifiers.{Any-push, all_pairs_push}
use Rattle.dm_base.specs.declared.ids.StopId.{StopId}
use Rattle.dm_network.specs.Net.{Net, places_at}
use Rattle.dm_rows.specs.Timetable.{time_at}
use Rattle.dm_journey.specs.declared.arriving.Journey.{Journey}
use Rattle.dm_journey.specs.declared.reaching.Reach.{Reach}
use Rattle.dm_journey.specs.Journeys.{Trades, IsNoWorse}
use Rattle.dm_journey.specs.Inside.Reaching.{AreReached, IsTraced}
use Rattle.dm_journey.specs.Inside.Arriving.{ArrivesWith, IsReachedArrival, IsEarliestOf, IsEarliest, IsFound, AreFound}
use Rattle.dm_journey.proofs.StopRows.{IsAtStop, at_stop_in_row, stands_at_stop}

pub and_parts : (a b : Bool) → (a && b) ≡ true → (a ≡ true) × (b ≡ true)
and_parts true b is = (refl, is)
and_parts false b is = cc

both : (a b : Bool) → a ≡ true → b ≡ true → (a && b) ≡ true
both true b a_is b_is = b_is
both false b a_is b_is = cc

-- the earliest of the row of a stop is the earliest arrival there
module _ (net : Net) (reached : List (Option Reach)) (x : List ℕ) (to : StopId) (n : ℕ) (row : List ℕ) (is : row ≡ places_at net to) where
  arrives_there : (e : ℕ) → IsAtStop net to e → IsReachedArrival net reached n e → ArrivesWith net reached to n e
  arrives_there e there arrival = record {
    is_event = there.is_event;
    arrival = both _ _ arrival.0 (eq-eqb _ to.0 there.at_stop);
    exactly = arrival.1;
  }

  stands_there : (e : ℕ) → ArrivesWith net reached to n e → IsAtStop net to e
  stands_there e there = record { is_event = there.is_event; at_stop = eqb-true _ to.0 (and_parts _ _ there.arrival).1 }

  is_reached : (e : ℕ) → ArrivesWith net reached to n e → IsReachedArrival net reached n e
  is_reached e there = ((and_parts _ _ there.arrival).0, there.exactly)

  pub earliest_whole : (best : Option ℕ) → IsEarliestOf net reached x n row (length row) best → IsEarliest net reached x to n best
  earliest_whole None none = λ e there.
      let s = stands_at_stop net to e row is (stands_there e there) in
      none s.place s.within (subst (IsReachedArrival net reached n) (sym s.is) (is_reached e there))
  earliest_whole (Some best) had = (
    arrives_there best (subst (IsAtStop net to) had.0.2 (at_stop_in_row net to had.0.0 row is had.0.1)) had.1,
    λ e there.
        let s = stands_at_stop net to e row is (stands_there e there) in
        subst (λ (i : ℕ). time_at x best ≤ time_at x i) s.is (had.2 s.place s.within (subst (IsReachedArrival net reached n) (sym s.is) (is_reached e there))),
  )

-- what some element of a list is, some element of a longer one is, and what follows from it
any_longer : (P : Journey → Type 0) (answer : List Journey) (j : Journey) → Any P answer → Any P (answer ++ j ∷ [])
any_longer P answer j any =
    let below = any.2 in
    let size = length-append answer (j ∷ []) in
    (any.0, any.1, omega arith, get_or_append_left answer (j ∷ []) any.1 any.0 any.2 ∙ any.3, any.4)

-- journeys with fewer than n + 1 changes
module _ (net : Net) (x : List ℕ) (to : StopId) (ranks : List ℕ) (reached : List (Option Reach)) (n : ℕ) (answer : List Journey)
    (found : AreFound net x to ranks reached n answer) where
  found_still : (begins usable : ℕ → Bool) → AreReached net begins usable ranks reached → All (IsFound net begins usable x to (n + 1)) answer
  found_still begins usable are k d below =
      let f = found.found begins usable are k d below in
      record { last = f.last; arrival = f.arrival; traced = f.traced; arrives_at = f.arrives_at; few = let few = f.few in omega arith }

  fewer_still : All (λ (j : Journey). j.changes < n + 1) answer
  fewer_still k d below = let few = found.fewer k d below in omega arith

  -- what meets the arrivals with n changes meets those with at most as many
  meets_more : (more : List Journey) → ((e m : ℕ) → m < n → ArrivesWith net reached to m e → Any (IsNoWorse (time_at x e) m) more) →
      ((e : ℕ) → ArrivesWith net reached to n e → Any (IsNoWorse (time_at x e) n) more) →
      (e m : ℕ) → m < n + 1 → ArrivesWith net reached to m e → Any (IsNoWorse (time_at x e) m) more
  meets_more more before now e m below there = elim (cases_lt m n) [
    | inl fewer ↦ before e m fewer there
    | inr past ↦
        let same : m ≡ n = omega arith in
        let P : ℕ → Type 0 = λ i. ArrivesWith net reached to i e → Any (IsNoWorse (time_at x e) i) more in
        subst P (sym same) (now e) there
  ]

  pub found_none : IsEarliest net reached x to n None → AreFound net x to ranks reached (n + 1) answer
  found_none none = record {
    found = found_still;
    fewer = fewer_still;
    trade = found.trade;
    meets_each = meets_more answer found.meets_each (λ e there. absurd (none e there));
  }

  pub found_late : (last arrival : ℕ) (shown : List Journey) → IsEarliest net reached x to n (Some last) → arrival ≡ time_at x last → shown ≡ answer →
      Any (λ (j : Journey). j.arrival ≤ arrival) shown → AreFound net x to ranks reached (n + 1) answer
  found_late last arrival shown earliest is_at is some =
      let any : Any (λ (j : Journey). j.arrival ≤ arrival) answer = subst (Any (λ (j : Journey). j.arrival ≤ arrival)) is some in
      let few : any.1.changes < n = subst (λ (j : Journey). j.changes < n) any.3 (found.fewer any.0 any.1 any.2) in
      let early = any.4 in
      record {
        found = found_still;
        fewer = fewer_still;
        trade = found.trade;
        meets_each = meets_more answer found.meets_each (λ e there.
            let first = earliest.1 e there in
            (any.0, any.1, any.2, any.3, record { no_later = omega arith; no_more = omega arith }));
      }

  pub found_more : (last : ℕ) (journey : Journey) (shown more : List Journey) → IsEarliest net reached x to n (Some last) → shown ≡ answer →
      All (λ (j : Journey). journey.arrival < j.arrival) shown → journey.arrival ≡ time_at x last → journey.changes ≡ n →
      ((begins usable : ℕ → Bool) → AreReached net begins usable ranks reached → IsTraced net begins usable last journey.walk n) →
      more ≡ answer ++ journey ∷ [] → AreFound net x to ranks reached (n + 1) more
  found_more last journey shown more earliest is_shown all arrival changes traced is =
      let later : All (λ (j : Journey). journey.arrival < j.arrival) answer = subst (All (λ (j : Journey). journey.arrival < j.arrival)) is_shown all in
      subst (AreFound net x to ranks reached (n + 1)) (sym is) (record {
        found = λ begins usable are.
            All-append (IsFound net begins usable x to (n + 1)) answer (journey ∷ []) (found_still begins usable are)
            (All-cons (IsFound net begins usable x to (n + 1)) journey [] (record {
              last = last;
              arrival = earliest.0.arrival;
              traced = subst (IsTraced net begins usable last journey.walk) (sym changes) (traced begins usable are);
              arrives_at = arrival;
              few = omega arith;
            }) (All-nil (IsFound net begins usable x to (n + 1))));
        fewer =
            All-append (λ (j : Journey). j.changes < n + 1) answer (journey ∷ []) fewer_still
            (All-cons (λ (j : Journey). j.changes < n + 1) journey [] (omega arith) (All-nil (λ (j : Journey). j.changes < n + 1)));
        trade =
            all_pairs_push Trades answer journey found.trade
            (λ k d below. let few = found.fewer k d below in let late = later k d below in record { more_changes = omega arith; earlier = omega arith });
        meets_each = meets_more (answer ++ journey ∷ []) (λ e m fewer there. any_longer _ answer journey (found.meets_each e m fewer there))
            (λ e there. let first = earliest.1 e there in
            Any-push (IsNoWorse (time_at x e) n) answer journey (record { no_later = omega arith; no_more = omega arith }));
      })
