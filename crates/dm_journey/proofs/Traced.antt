-- Tracing a walk back from the event that it reaches.
use Rattle.std.proofs.Common.{◌≡◌, ℕ, ◌+◌, ◌<◌, Bool, IsTrue, List, [], ◌∷◌, ◌++◌, length, Option, Some, None, refl, sym, ap, subst, ◌∙◌, arith, reverse}
use Rattle.std.proofs.lemmas.List.{reverse-append}
use Rattle.std.proofs.lemmas.List.Sums.{sum_by-cons}
use Rattle.dm_graph.specs.Arcs.{Chain}
use Rattle.dm_network.specs.Net.{Net, activity_at}
use Rattle.dm_network.specs.Held.{arcs_of}
use Rattle.dm_journey.specs.declared.reaching.Reach.{Reach}
use Rattle.dm_journey.specs.Walks.{changes_in}
use Rattle.dm_journey.specs.Inside.Reaching.{reach_at, by_of, changes_of, IsExactly, IsWithMore, ComesAlong, ComesBy, Comes, AreReached, IsTraced, IsTracedFrom}

-- one activity more in front
pub changes_in-cons : (net : Net) (a : ℕ) (walk : List ℕ) → changes_in net (a ∷ walk) ≡ changes_of net a + changes_in net walk
changes_in-cons net a walk = sum_by-cons _ a walk

-- an event that is reached by an activity is reached along it
by_is_along : (net : Net) (begins usable : ℕ → Bool) (ranks : List ℕ) (reached : List (Option Reach)) (e a n : ℕ) (by : Option ℕ) → by ≡ Some a →
    ComesBy net begins usable ranks reached e n by → ComesAlong net usable ranks reached e a n
by_is_along net begins usable ranks reached e a n by is comes = subst (ComesBy net begins usable ranks reached e n) is comes

-- with so many changes, as the event is reached
pub record IsReachedBy (net : Net) (usable : ℕ → Bool) (ranks : List ℕ) (reached : List (Option Reach)) (e a : ℕ) (reach : Option Reach) : Type 0 where
  pub changes : ℕ
  pub along : ComesAlong net usable ranks reached e a changes
  pub exactly : IsExactly reach changes

reached_by_of : (net : Net) (begins usable : ℕ → Bool) (ranks : List ℕ) (reached : List (Option Reach)) (e a : ℕ) (reach : Option Reach) → by_of reach ≡ Some a →
    Comes net begins usable ranks reached e reach → IsReachedBy net usable ranks reached e a reach
reached_by_of net begins usable ranks reached e a None is comes = cc
reached_by_of net begins usable ranks reached e a (Some r) is comes = record {
  changes = r.changes;
  along = by_is_along net begins usable ranks reached e a r.changes r.by is comes;
  exactly = refl;
}

module _ (net : Net) (begins usable : ℕ → Bool) (ranks : List ℕ) (reached : List (Option Reach)) (are : AreReached net begins usable ranks reached) where
  pub reached_by : (e a : ℕ) → e < length net.events → by_of (reach_at reached e) ≡ Some a → IsReachedBy net usable ranks reached e a (reach_at reached e)
  reached_by e a is_event is = reached_by_of net begins usable ranks reached e a (reach_at reached e) is (are.comes e is_event)

  more_by_one : (tail reach : Option Reach) (cost more m n : ℕ) → IsExactly reach m → IsWithMore reach more n → IsWithMore tail cost m → IsWithMore tail (cost + more) n
  more_by_one None reach cost more m n exactly with_more along = along
  more_by_one (Some t) None cost more m n exactly with_more along = absurd exactly
  more_by_one (Some t) (Some r) cost more m n exactly with_more along = omega arith

  pub traced_back : (event last a n : ℕ) (walk : List ℕ) → by_of (reach_at reached event) ≡ Some a → IsTracedFrom net usable reached event last walk n →
      IsTracedFrom net usable reached (activity_at net a).tail last (a ∷ walk) n
  traced_back event last a n walk is traced =
      let by = reached_by event a traced.is_event is in
      record {
        is_event = by.along.binds.from_event;
        leads = (by.along.binds, refl, subst (λ (e : ℕ). Chain (arcs_of net usable) e walk last) (sym by.along.enters) traced.leads);
        counted =
            let P : ℕ → Type 0 = λ more. IsWithMore (reach_at reached (activity_at net a).tail) more n in
            subst P (sym (changes_in-cons net a walk))
            (more_by_one (reach_at reached (activity_at net a).tail) (reach_at reached event) (changes_of net a) (changes_in net walk) by.changes n
            by.exactly traced.counted by.along.counted);
      }

  -- the walk that is pushed at the back, and turned round
  pub traced_pushed : (event last a n : ℕ) (walk pushed : List ℕ) → pushed ≡ walk ++ a ∷ [] → by_of (reach_at reached event) ≡ Some a →
      IsTracedFrom net usable reached event last (reverse walk) n → IsTracedFrom net usable reached (activity_at net a).tail last (reverse pushed) n
  traced_pushed event last a n walk pushed is by traced =
      let turned : reverse pushed ≡ a ∷ reverse walk = ap reverse is ∙ reverse-append walk (a ∷ []) in
      subst (λ (w : List ℕ). IsTracedFrom net usable reached (activity_at net a).tail last w n) (sym turned) (traced_back event last a n (reverse walk) by traced)

  begins_there : (event more n : ℕ) (reach : Option Reach) → by_of reach ≡ None → Comes net begins usable ranks reached event reach → IsWithMore reach more n →
      IsTrue (begins event) × (n ≡ more)
  begins_there event more n None none comes with_more = absurd with_more
  begins_there event more n (Some r) none comes with_more =
      let here : IsTrue (begins event) × (r.changes ≡ 0) = subst (ComesBy net begins usable ranks reached event r.changes) none comes in
      (here.0, let zero_changes = here.1 in omega arith)

  -- where no activity leads to the event, the walk is whole
  pub traced_whole : (event last n : ℕ) (walk : List ℕ) → by_of (reach_at reached event) ≡ None → IsTracedFrom net usable reached event last walk n →
      IsTraced net begins usable last walk n
  traced_whole event last n walk none traced =
      let here = begins_there event (changes_in net walk) n (reach_at reached event) none (are.comes event traced.is_event) traced.counted in
      record { first = event; starts = here.0; leads = traced.leads; counted = here.1 }

-- the trace begins at the last event, with no activity
traced_none_of : (reach : Option Reach) (n more : ℕ) → more ≡ 0 → IsExactly reach n → IsWithMore reach more n
traced_none_of None n more none exactly = exactly
traced_none_of (Some r) n more none exactly = omega arith

pub traced_none : (net : Net) (usable : ℕ → Bool) (reached : List (Option Reach)) (last n : ℕ) (walk : List ℕ) → walk ≡ [] → last < length net.events →
    IsExactly (reach_at reached last) n → IsTracedFrom net usable reached last last (reverse walk) n
traced_none net usable reached last n walk none is_event exactly =
    subst (λ (w : List ℕ). IsTracedFrom net usable reached last last (reverse w) n) (sym none) (record {
      is_event = is_event;
      leads = refl;
      counted = traced_none_of (reach_at reached last) n (changes_in net []) refl exactly;
    })
