-- No time is later than the ranks of the events allow, and so each is below the limit of all times.
use Rattle.std.proofs.Common.{◌≡◌, ℕ, zero, suc, ◌+◌, ◌-◌, ◌<◌, ◌≤◌, Bool, true, List, refl, sym, ap, subst, ◌∙◌, ◌*◌, ◌^◌, ◌⊎◌, inl, inr, arith, slice_index}
use Rattle.std.proofs.lemmas.Bool.{cases_Bool, cases_lt, cases_eq}
use Rattle.std.proofs.lemmas.List.{get_or_past}
use Rattle.dm_base.specs.declared.limits.TheConstants.{EVENTS, PASSED_TIME, BOUND, DELAY}
use Rattle.dm_graph.specs.Arcs.{Arcs, Binds, HasNoCycle}
use Rattle.dm_graph.specs.Arrays.{AreRanks}
use Rattle.dm_graph.specs.Graph.{Graph, IsJoin}
use Rattle.dm_graph.proofs.Chains.{Rises}
use Rattle.dm_graph.proofs.Rounds.{least_is_bounded}
use Rattle.dm_settle.specs.Constraints.{IsBounded}
use Rattle.dm_marks.specs.Marked.{is_marked}
use Rattle.dm_settle.specs.Settling.{AreLeast, AreEarly, IsSettled, IsEntered, MayMove, GoesForward}
use Rattle.dm_settle.specs.Inside.Sweep.{IsSweeping, TailsAreEarly, latest}

-- an arc enters the event, or does not
enters_or : (g : Arcs) (a e : ℕ) → a < g.arcs → IsEntered g e ⊎ (Binds g a → g.head a ≡ e → ⊥)
enters_or g a e is_arc =
    elim (cases_Bool (g.held a)) [
      | inr free ↦ inr (λ b is. let held = b.is_held in absurd cc)
      | inl held ↦ elim (cases_lt (g.tail a) g.events) [
        | inr past ↦ inr (λ b is. let t = b.from_event in absurd (omega arith))
        | inl tail ↦ elim (cases_lt (g.head a) g.events) [
          | inr past ↦ inr (λ b is. let h = b.to_event in absurd (omega arith))
          | inl head ↦ elim (cases_eq (g.head a) e) [
            | inl is ↦ inl (record { arc = a; binds = record { is_arc = is_arc; is_held = held; from_event = tail; to_event = head }; enters = is })
            | inr ne ↦ inr (λ b is. ne is)
          ]
        ]
      ]
    ]

-- one of the first n arcs enters the event, or none does
entered_among : (g : Arcs) (e n : ℕ) → n ≤ g.arcs → IsEntered g e ⊎ ((a : ℕ) → a < n → Binds g a → g.head a ≡ e → ⊥)
entered_among g e zero le = inr (λ a lt b is. absurd (omega arith))
entered_among g e (suc n) le =
    elim (entered_among g e n (omega arith)) [
      | inl found ↦ inl found
      | inr none ↦ elim (enters_or g n e (omega arith)) [
        | inl found ↦ inl found
        | inr other ↦ inr (λ a lt b is. elim (cases_lt a n) [
          | inl before ↦ none a before b is
          | inr past ↦
              let here : a ≡ n = omega arith in
              other (subst (Binds g) here b) (ap g.head (sym here) ∙ is)
        ])
      ]
    ]

-- an event may move or not
moves_or : (g : Arcs) (ranks : List ℕ) (marks : List Bool) (e : ℕ) → MayMove g ranks marks e ⊎ (MayMove g ranks marks e → ⊥)
moves_or g ranks marks e =
    elim (cases_Bool (is_marked marks (slice_index ranks e))) [
      | inl marked ↦ inl (inl marked)
      | inr clear ↦ elim (entered_among g e g.arcs (omega arith)) [
        | inl entered ↦ inl (inr entered)
        | inr none ↦ inr (λ may. elim may [
          | inl marked ↦ absurd cc
          | inr entered ↦ none entered.arc entered.binds.is_arc entered.binds entered.enters
        ])
      ]
    ]

-- events that may not move come first, and then the others in their order
abbrev rank_where : {A : Type 0} → A ⊎ (A → ⊥) → ℕ → ℕ
rank_where (inl a) r = suc r
rank_where (inr not_a) r = 0

rank_where-holds : {A : Type 0} (d : A ⊎ (A → ⊥)) (r : ℕ) → A → rank_where d r ≡ suc r
rank_where-holds (inl a) r h = refl
rank_where-holds (inr not_a) r h = absurd (not_a h)

rank_where-rises : {A : Type 0} (d : A ⊎ (A → ⊥)) (r s : ℕ) → (A → r < s) → rank_where d r < suc s
rank_where-rises (inl a) r s up = let h = up a in omega arith
rank_where-rises (inr not_a) r s up = omega arith

pub moving_rank : Arcs → List ℕ → List Bool → ℕ → ℕ
moving_rank g ranks marks e = rank_where (moves_or g ranks marks e) (slice_index ranks e)

pub moving_rank-moves : (g : Arcs) (ranks : List ℕ) (marks : List Bool) (e : ℕ) → MayMove g ranks marks e → moving_rank g ranks marks e ≡ suc (slice_index ranks e)
unfolding moving_rank
moving_rank-moves g ranks marks e may = rank_where-holds (moves_or g ranks marks e) (slice_index ranks e) may

moving_rank-below : (g : Arcs) (ranks : List ℕ) (marks : List Bool) (e s : ℕ) → (MayMove g ranks marks e → slice_index ranks e < s) → moving_rank g ranks marks e < suc s
unfolding moving_rank
moving_rank-below g ranks marks e s up = rank_where-rises (moves_or g ranks marks e) (slice_index ranks e) s up

-- these ranks rise along every arc that binds
pub moving_rank-rises : (g : Arcs) (ranks : List ℕ) (marks : List Bool) → GoesForward g ranks marks → Rises g (moving_rank g ranks marks)
moving_rank-rises g ranks marks forward a binds =
    let tail = moving_rank-below g ranks marks (g.tail a) (slice_index ranks (g.head a)) (λ may. forward a binds may) in
    let head = moving_rank-moves g ranks marks (g.head a) (inr (record { arc = a; binds = binds; enters = refl })) in
    omega arith

module _ (g : Graph) (ranks times : List ℕ) (first : List Bool) (bounded : IsBounded g) (forward : GoesForward g.shape ranks first) where
  -- where every event below a rank has its time, none of them is late
  settled_is_early : (m : ℕ) → ((e : ℕ) → e < g.shape.events → moving_rank g.shape ranks first e < m → IsSettled g times e) →
      (n e : ℕ) → moving_rank g.shape ranks first e < n → moving_rank g.shape ranks first e < m → e < g.shape.events →
      slice_index times e ≤ latest (moving_rank g.shape ranks first e)
  settled_is_early m settled zero e below in' is_event = absurd (omega arith)
  settled_is_early m settled (suc n) e below in' is_event =
      let floor = bounded.floors e is_event in
      (settled e is_event in').least (latest (moving_rank g.shape ranks first e)) (omega arith)
      (λ a b is.
      let rises : moving_rank g.shape ranks first (g.shape.tail a) < moving_rank g.shape ranks first (g.shape.head a) = moving_rank-rises g.shape ranks first forward a b in
      let same : moving_rank g.shape ranks first (g.shape.head a) ≡ moving_rank g.shape ranks first e = ap (moving_rank g.shape ranks first) is in
      let span = bounded.spans a b in
      let tail = settled_is_early m settled n (g.shape.tail a) (omega arith) (omega arith) b.from_event in
      omega arith)

  -- at the place of a marked event, every event before it has its time
  settled_before : (marks : List Bool) (e : ℕ) → IsSweeping g ranks first marks times (slice_index ranks e) →
      (f : ℕ) → f < g.shape.events → moving_rank g.shape ranks first f < suc (slice_index ranks e) → IsSettled g times f
  settled_before marks e sweeping f is_event before =
      elim (cases_Bool (is_marked marks (slice_index ranks f))) [
        | inl marked ↦
            let rank = moving_rank-moves g.shape ranks first f (sweeping.may_move f is_event marked) in
            let later = sweeping.later (slice_index ranks f) marked in
            absurd (omega arith)
        | inr clear ↦ sweeping.unsettled.settled f is_event clear
      ]

  -- so the tails of the arcs that bind into it are early
  pub tails_are_early : (order : List ℕ) → AreRanks g.shape.events order ranks →
      (marks : List Bool) (e : ℕ) → e < g.shape.events → IsSweeping g ranks first marks times (slice_index ranks e) →
      is_marked marks (slice_index ranks e) ≡ true → TailsAreEarly g times e
  tails_are_early order ranked marks e is_event sweeping marked a binds head =
      let few = bounded.few in
      let here = moving_rank-moves g.shape ranks first e (sweeping.may_move e is_event marked) in
      let rises : moving_rank g.shape ranks first (g.shape.tail a) < moving_rank g.shape ranks first (g.shape.head a) = moving_rank-rises g.shape ranks first forward a binds in
      let same : moving_rank g.shape ranks first (g.shape.head a) ≡ moving_rank g.shape ranks first e = ap (moving_rank g.shape ranks first) head in
      let place = ranked.has_place e is_event in
      let early = settled_is_early (suc (slice_index ranks e)) (settled_before marks e sweeping)
      (suc (moving_rank g.shape ranks first (g.shape.tail a))) (g.shape.tail a) (omega arith) (omega arith) binds.from_event in
      omega arith

-- the times of the least timetable are early, where there is no cycle
most : (n : ℕ) → n ≤ EVENTS → PASSED_TIME + n * (BOUND + DELAY) < 2 ^ 38
most n few = omega arith

pub least_is_early : (g : Graph) (times : List ℕ) → IsBounded g → HasNoCycle g.shape → AreLeast g times → AreEarly times
least_is_early g times bounded none least e =
    elim (cases_lt e g.shape.events) [
      | inl is_event ↦
          let bound = least_is_bounded g (slice_index times) PASSED_TIME (BOUND + DELAY) bounded.floors bounded.spans none least.least e is_event in
          let limit = most g.shape.events bounded.few in
          omega arith
      | inr past ↦ let many = least.as_many in let nothing : slice_index times e ≡ 0 = get_or_past times e 0 (omega arith) in omega arith
    ]

-- what the floor and the arcs into an event allow is early where the tails are
pub join_is_early : (g : Graph) (times : List ℕ) (e time : ℕ) → g.floor e ≤ PASSED_TIME → ((a : ℕ) → g.span a ≤ BOUND + DELAY) →
    TailsAreEarly g times e → IsJoin g (slice_index times) e time → time < 2 ^ 38
join_is_early g times e time floor spans tails join =
    let last : time ≤ 2 ^ 38 - 1 =
    join.least (2 ^ 38 - 1) (omega arith) (λ a binds head. let tail = tails a binds head in let span = spans a in omega arith) in
    omega arith
