-- Reaching on along rows and along the order.
use Rattle.std.proofs.Common.{◌≡◌, ◌≢◌, ℕ, ◌+◌, ◌<◌, ◌≤◌, Bool, false, IsTrue, List, length, Option, Some, None, refl, sym, ap, subst, ◌∙◌, ◌⊎◌, inl, inr, arith, set, slice_index}
use Rattle.std.specs.Prelude.{is_some, IsSome, IfSome}
use Rattle.std.proofs.lemmas.Bool.{cases_lt}
use Rattle.std.proofs.lemmas.List.{get_or-set_same, get_or-set_other, length-set}
use Rattle.dm_graph.specs.Arcs.{Binds, IsOrder}
use Rattle.dm_graph.specs.Arrays.{AreRanks}
use Rattle.dm_graph.proofs.Chains.{Rises}
use Rattle.dm_graph.proofs.Ranks.{ranks_rise}
use Rattle.dm_network.specs.Net.{Net, EndsAreKnown, activity_at, places_into}
use Rattle.dm_network.specs.Held.{arcs_of, is_held}
use Rattle.dm_network.proofs.EventRows.{leads_into, stands_into}
use Rattle.dm_journey.specs.declared.reaching.Reach.{Reach}
use Rattle.dm_journey.specs.Inside.Reaching.{reach_at, changes_of, IsBeginning, IsWithin, IsWithMore, ComesAlong, ComesBy, Comes, IsReachedWell, IsReachedAlong, IsOneOfRow, ComesByRow, IsFromRow, HasReached, HasReachedAll}

one_of_more : (net : Net) (flags : List Bool) (reached : List (Option Reach)) (row : List ℕ) (k n : ℕ) (by : Option ℕ) →
    IsOneOfRow net flags reached row k n by → IsOneOfRow net flags reached row (k + 1) n by
one_of_more net flags reached row k n None one = one
one_of_more net flags reached row k n (Some a) one = (one.0, (let b = one.1 in omega arith), one.2, one.3, one.4)

by_row_more : (net : Net) (flags : List Bool) (reached : List (Option Reach)) (row : List ℕ) (k : ℕ) (reach : Option Reach) →
    ComesByRow net flags reached row k reach → ComesByRow net flags reached row (k + 1) reach
by_row_more net flags reached row k None comes = comes
by_row_more net flags reached row k (Some r) comes = one_of_more net flags reached row k r.changes r.by comes

from_row_more : (net : Net) (flags : List Bool) (first : Option Reach) (reached : List (Option Reach)) (row : List ℕ) (k : ℕ) (reach : Option Reach) →
    IsFromRow net flags first reached row k reach → IsFromRow net flags first reached row (k + 1) reach
from_row_more net flags first reached row k reach from =
    elim from [ inl same ↦ inl same | inr by ↦ inr (by_row_more net flags reached row k reach by) ]

-- what a usable activity of the row gives
by_last : (net : Net) (flags : List Bool) (reached : List (Option Reach)) (row : List ℕ) (k : ℕ) (other : Option Reach) → IsSome other →
    IsTrue (is_held flags (slice_index row k)) → IfSome other (λ (r : Reach). r.by ≡ Some (slice_index row k)) →
    IfSome other (λ (r : Reach). IsWithMore (reach_at reached (activity_at net (slice_index row k)).tail) (changes_of net (slice_index row k)) r.changes) →
    ComesByRow net flags reached row (k + 1) other
by_last net flags reached row k None some held by counted = cc
by_last net flags reached row k (Some r) some held by counted =
    subst (IsOneOfRow net flags reached row (k + 1) r.changes) (sym by) (k, omega arith, refl, held, counted)

-- so many activities of a row, and the next one
pub record HasStepped (net : Net) (flags : List Bool) (most : ℕ) (first : Option Reach) (reached : List (Option Reach)) (row : List ℕ) (k : ℕ) (best : Option Reach) : Type 0 where
  pub comes : IsFromRow net flags first reached row k best
  pub along : IsReachedAlong net flags most first reached row k best

module _ (net : Net) (flags : List Bool) (most : ℕ) (first : Option Reach) (reached : List (Option Reach)) (row : List ℕ) (k : ℕ) (best : Option Reach)
    (comes : IsFromRow net flags first reached row k best) (along : IsReachedAlong net flags most first reached row k best) where
  pub stepped_by : (other next : Option Reach) → IsTrue (is_held flags (slice_index row k)) →
      IfSome other (λ (r : Reach). r.by ≡ Some (slice_index row k)) →
      IfSome other (λ (r : Reach). IsWithMore (reach_at reached (activity_at net (slice_index row k)).tail) (changes_of net (slice_index row k)) r.changes) →
      ((n : ℕ) → IsWithin (reach_at reached (activity_at net (slice_index row k)).tail) n → n + changes_of net (slice_index row k) ≤ most →
      IsWithin other (n + changes_of net (slice_index row k))) →
      (next ≡ best) ⊎ (IsSome other × (next ≡ other)) → ((n : ℕ) → IsWithin best n → IsWithin next n) → ((n : ℕ) → IsWithin other n → IsWithin next n) →
      HasStepped net flags most first reached row (k + 1) next
  stepped_by other next held by counted reaches either no_more no_more_than = record {
    comes = elim either [
      | inl same ↦ subst (IsFromRow net flags first reached row (k + 1)) (sym same) (from_row_more net flags first reached row k best comes)
      | inr new ↦ subst (IsFromRow net flags first reached row (k + 1)) (sym new.1) (inr (by_last net flags reached row k other new.0 held by counted))
    ];
    along = record {
      at_least = λ n within. no_more n (along.at_least n within);
      along = λ j below held_j n within few. elim (cases_lt j k) [
        | inl before ↦ no_more _ (along.along j before held_j n within few)
        | inr past ↦
            let here : j ≡ k = omega arith in
            let P : ℕ → Type 0 = λ i. IsWithin (reach_at reached (activity_at net (slice_index row i)).tail) n → n + changes_of net (slice_index row i) ≤ most →
            IsWithin next (n + changes_of net (slice_index row i)) in
            let last : P k = λ w f. no_more_than _ (reaches n w f) in
            subst P (sym here) last within few
      ];
    };
  }

  pub stepped_over : (next : Option Reach) → is_held flags (slice_index row k) ≡ false → next ≡ best → HasStepped net flags most first reached row (k + 1) next
  stepped_over next free same = subst (HasStepped net flags most first reached row (k + 1)) (sym same) (record {
    comes = from_row_more net flags first reached row k best comes;
    along = record {
      at_least = along.at_least;
      along = λ j below held_j n within few. elim (cases_lt j k) [
        | inl before ↦ along.along j before held_j n within few
        | inr past ↦
            let here : j ≡ k = omega arith in
            let not_here : is_held flags (slice_index row j) ≡ false = ap (λ (i : ℕ). is_held flags (slice_index row i)) here ∙ free in
            absurd cc
      ];
    };
  })

-- how an event is reached after another one is written, if the tails of the activities into it are others
module _ (net : Net) (begins usable : ℕ → Bool) (ranks : List ℕ) (now then : List (Option Reach)) (e : ℕ)
    (same : (a : ℕ) → Binds (arcs_of net usable) a → (activity_at net a).head ≡ e →
    reach_at then (activity_at net a).tail ≡ reach_at now (activity_at net a).tail) where
  comes_by_same : (n : ℕ) (by : Option ℕ) → ComesBy net begins usable ranks now e n by → ComesBy net begins usable ranks then e n by
  comes_by_same n None comes = comes
  comes_by_same n (Some a) comes = record {
    binds = comes.binds;
    enters = comes.enters;
    earlier = comes.earlier;
    counted =
        let P : Option Reach → Type 0 = λ reach. IsWithMore reach (changes_of net a) n in
        subst P (sym (same a comes.binds comes.enters)) comes.counted;
  }

  pub comes_same : (reach : Option Reach) → Comes net begins usable ranks now e reach → Comes net begins usable ranks then e reach
  comes_same None comes = comes
  comes_same (Some r) comes = comes_by_same r.changes r.by comes

  pub well_same : (most : ℕ) (first reach : Option Reach) → IsReachedWell net usable most first now e reach → IsReachedWell net usable most first then e reach
  well_same most first reach well = record {
    at_least = well.at_least;
    along = λ a binds enters n within few.
        let P : Option Reach → Type 0 = λ tail. IsWithin tail n in
        well.along a binds enters n (subst P (same a binds enters) within) few;
  }

-- what a row of an event gives is how the event is reached
module _ (net : Net) (flags : List Bool) (most : ℕ) (ranks : List ℕ) (before reached : List (Option Reach)) (e : ℕ) (row : List ℕ)
    (known : EndsAreKnown net) (is : row ≡ places_into net e) (rises : Rises (arcs_of net (is_held flags)) (slice_index ranks)) where
  binds_in_row : (j : ℕ) → j < length row → IsTrue (is_held flags (slice_index row j)) → Binds (arcs_of net (is_held flags)) (slice_index row j)
  binds_in_row j below held =
      let leads = leads_into net e j row is below in
      record {
        is_arc = leads.is_activity;
        is_held = held;
        from_event = known.tails (slice_index row j) leads.is_activity;
        to_event = known.heads (slice_index row j) leads.is_activity;
      }

  along_row : (j n : ℕ) → j < length row → IsTrue (is_held flags (slice_index row j)) →
      IsWithMore (reach_at reached (activity_at net (slice_index row j)).tail) (changes_of net (slice_index row j)) n →
      ComesAlong net (is_held flags) ranks reached e (slice_index row j) n
  along_row j n below held counted =
      let binds = binds_in_row j below held in
      let enters = (leads_into net e j row is below).head in
      let up = rises (slice_index row j) binds in
      record {
        binds = binds;
        enters = enters;
        earlier = subst (λ (i : ℕ). slice_index ranks (activity_at net (slice_index row j)).tail < slice_index ranks i) enters up;
        counted = counted;
      }

  comes_by_row : (n : ℕ) (by : Option ℕ) → IsOneOfRow net flags reached row (length row) n by →
      ComesBy net (λ i. is_some (reach_at before i)) (is_held flags) ranks reached e n by
  comes_by_row n None one = absurd one
  comes_by_row n (Some a) one =
      let P : ℕ → Type 0 = λ b. IsWithMore (reach_at reached (activity_at net b).tail) (changes_of net b) n in
      let held : IsTrue (is_held flags (slice_index row one.0)) = subst (λ (b : ℕ). IsTrue (is_held flags b)) (sym one.2) one.3 in
      subst (λ (b : ℕ). ComesAlong net (is_held flags) ranks reached e b n) one.2
      (along_row one.0 n one.1 held (subst P (sym one.2) one.4))

  comes_row : (reach : Option Reach) → ComesByRow net flags reached row (length row) reach →
      Comes net (λ i. is_some (reach_at before i)) (is_held flags) ranks reached e reach
  comes_row None comes = tt
  comes_row (Some r) comes = comes_by_row r.changes r.by comes

  comes_first : (first : Option Reach) → reach_at before e ≡ first → IsBeginning first →
      Comes net (λ i. is_some (reach_at before i)) (is_held flags) ranks reached e first
  comes_first None same begins = tt
  comes_first (Some r) same begins =
      subst (λ (s : Reach). Comes net (λ i. is_some (reach_at before i)) (is_held flags) ranks reached e (Some s)) (sym begins)
      (ap is_some same, refl)

  pub comes_from_row : IsBeginning (reach_at before e) → (reach : Option Reach) → IsFromRow net flags (reach_at before e) reached row (length row) reach →
      Comes net (λ i. is_some (reach_at before i)) (is_held flags) ranks reached e reach
  comes_from_row begins reach from = elim from [
    | inl same ↦ subst (Comes net (λ i. is_some (reach_at before i)) (is_held flags) ranks reached e) (sym same) (comes_first (reach_at before e) refl begins)
    | inr by ↦ comes_row reach by
  ]

  pub well_along_row : (reach : Option Reach) → IsReachedAlong net flags most (reach_at before e) reached row (length row) reach →
      IsReachedWell net (is_held flags) most (reach_at before e) reached e reach
  well_along_row reach along = record {
    at_least = along.at_least;
    along = λ a binds enters n within few.
        let s = stands_into net e a row is (record { is_activity = binds.is_arc; head = enters }) in
        let P : ℕ → Type 0 = λ b. IsWithin (reach_at reached (activity_at net b).tail) n in
        let F : ℕ → Type 0 = λ b. n + changes_of net b ≤ most in
        let W : ℕ → Type 0 = λ b. IsWithin reach (n + changes_of net b) in
        subst W s.is (along.along s.place s.within (subst (λ (b : ℕ). IsTrue (is_held flags b)) (sym s.is) binds.is_held) n
        (subst P (sym s.is) within) (subst F (sym s.is) few));
  }

-- the next event of the order is reached
module _ (net : Net) (flags : List Bool) (order ranks : List ℕ) (most : ℕ) (before now : List (Option Reach)) (k : ℕ)
    (ranked : AreRanks (length net.events) order ranks) (is_order : IsOrder (arcs_of net (is_held flags)) order)
    (known : EndsAreKnown net) (as_many : length before ≡ length net.events) (below : k < length net.events)
    (has : HasReached net flags ranks most before now k) where
  rises : Rises (arcs_of net (is_held flags)) (slice_index ranks)
  rises = ranks_rise (arcs_of net (is_held flags)) order ranks ranked is_order

  other_than : (e : ℕ) → e < length net.events → slice_index ranks e ≢ k → e ≢ slice_index order k
  other_than e is_event other same =
      other (ap (slice_index ranks) same ∙ ranked.is_ranked k below)

  pub still_first : reach_at now (slice_index order k) ≡ reach_at before (slice_index order k)
  still_first =
      let rank = ranked.is_ranked k below in
      has.others (slice_index order k) (ranked.is_event k below) (omega arith)

  -- the tails of what enters an event at most so far in the order are other events
  tails_same : (reach : Option Reach) (e : ℕ) → e < length net.events → slice_index ranks e ≤ k → (a : ℕ) → Binds (arcs_of net (is_held flags)) a →
      (activity_at net a).head ≡ e →
      reach_at (set now (slice_index order k) reach) (activity_at net a).tail ≡ reach_at now (activity_at net a).tail
  tails_same reach e is_event at_most a binds enters =
      let up = rises a binds in
      let at : slice_index ranks (activity_at net a).head ≡ slice_index ranks e = ap (slice_index ranks) enters in
      let other : slice_index ranks (activity_at net a).tail ≢ k = λ same. omega arith in
      get_or-set_other now (slice_index order k) (activity_at net a).tail reach None (other_than _ binds.from_event other)

  pub has_reached_next : (row : List ℕ) (reach : Option Reach) → row ≡ places_into net (slice_index order k) →
      IsBeginning (reach_at before (slice_index order k)) →
      IsFromRow net flags (reach_at now (slice_index order k)) now row (length row) reach →
      IsReachedAlong net flags most (reach_at now (slice_index order k)) now row (length row) reach →
      HasReached net flags ranks most before (set now (slice_index order k) reach) (k + 1)
  has_reached_next row reach is begins from along =
      let here = ranked.is_event k below in
      let rank = ranked.is_ranked k below in
      let first : IsFromRow net flags (reach_at before (slice_index order k)) now row (length row) reach =
      subst (λ (f : Option Reach). IsFromRow net flags f now row (length row) reach) still_first from in
      let first_along : IsReachedAlong net flags most (reach_at before (slice_index order k)) now row (length row) reach =
      subst (λ (f : Option Reach). IsReachedAlong net flags most f now row (length row) reach) still_first along in
      let size = has.as_many in
      let written : reach_at (set now (slice_index order k) reach) (slice_index order k) ≡ reach =
      get_or-set_same now (slice_index order k) reach None (omega arith) in
      let is_here : (e : ℕ) → e < length net.events → slice_index ranks e ≡ k → slice_index order k ≡ e =
      λ e is_event at. ap (slice_index order) (sym at) ∙ ranked.stands_there e is_event in
      record {
        as_many = length-set now (slice_index order k) reach ∙ size;
        comes = λ e is_event before_next. elim (cases_lt (slice_index ranks e) k) [
          | inl earlier ↦
              let other : slice_index ranks e ≢ k = λ same. omega arith in
              let same = get_or-set_other now (slice_index order k) e reach None (other_than e is_event other) in
              subst (Comes net (λ i. is_some (reach_at before i)) (is_held flags) ranks (set now (slice_index order k) reach) e) (sym same)
              (comes_same net (λ i. is_some (reach_at before i)) (is_held flags) ranks now (set now (slice_index order k) reach) e
              (tails_same reach e is_event (omega arith)) (reach_at now e) (has.comes e is_event earlier))
          | inr past ↦
              let at : slice_index ranks e ≡ k = omega arith in
              subst (λ (i : ℕ). Comes net (λ i. is_some (reach_at before i)) (is_held flags) ranks (set now (slice_index order k) reach) i (reach_at (set now (slice_index order k) reach) i))
              (is_here e is_event at)
              (subst (Comes net (λ i. is_some (reach_at before i)) (is_held flags) ranks (set now (slice_index order k) reach) (slice_index order k)) (sym written)
              (comes_same net (λ i. is_some (reach_at before i)) (is_held flags) ranks now (set now (slice_index order k) reach) (slice_index order k)
              (tails_same reach (slice_index order k) here (omega arith)) reach
              (comes_from_row net flags most ranks before now (slice_index order k) row known is rises begins reach first)))
        ];
        well = λ e is_event before_next. elim (cases_lt (slice_index ranks e) k) [
          | inl earlier ↦
              let other : slice_index ranks e ≢ k = λ same. omega arith in
              let same = get_or-set_other now (slice_index order k) e reach None (other_than e is_event other) in
              subst (IsReachedWell net (is_held flags) most (reach_at before e) (set now (slice_index order k) reach) e) (sym same)
              (well_same net (λ i. is_some (reach_at before i)) (is_held flags) ranks now (set now (slice_index order k) reach) e
              (tails_same reach e is_event (omega arith)) most (reach_at before e) (reach_at now e) (has.well e is_event earlier))
          | inr past ↦
              let at : slice_index ranks e ≡ k = omega arith in
              subst (λ (i : ℕ). IsReachedWell net (is_held flags) most (reach_at before i) (set now (slice_index order k) reach) i (reach_at (set now (slice_index order k) reach) i))
              (is_here e is_event at)
              (subst (IsReachedWell net (is_held flags) most (reach_at before (slice_index order k)) (set now (slice_index order k) reach) (slice_index order k)) (sym written)
              (well_same net (λ i. is_some (reach_at before i)) (is_held flags) ranks now (set now (slice_index order k) reach) (slice_index order k)
              (tails_same reach (slice_index order k) here (omega arith)) most (reach_at before (slice_index order k)) reach
              (well_along_row net flags most ranks before now (slice_index order k) row known is rises reach first_along)))
        ];
        others = λ e is_event not_yet.
            let other : slice_index ranks e ≢ k = λ same. omega arith in
            get_or-set_other now (slice_index order k) e reach None (other_than e is_event other) ∙ has.others e is_event (omega arith);
      }

-- behind the last event, all are
pub has_reached_all : (net : Net) (flags : List Bool) (order ranks : List ℕ) (most : ℕ) (before now : List (Option Reach)) (k : ℕ) →
    AreRanks (length net.events) order ranks → length before ≡ length net.events → k ≡ length net.events → HasReached net flags ranks most before now k →
    HasReachedAll net flags ranks most before now
has_reached_all net flags order ranks most before now k ranked as_many all has = record {
  reached = record {
    as_many = has.as_many ∙ as_many;
    comes = λ e is_event. let r = ranked.has_place e is_event in has.comes e is_event (omega arith);
  };
  well = λ e is_event. let r = ranked.has_place e is_event in has.well e is_event (omega arith);
}
