-- Where rounds may begin after what binds has changed: at the times of before for the events that are not stale, and at the floors for the others.
use Rattle.std.proofs.Common.{◌≡◌, ℕ, ◌+◌, ◌-◌, ◌<◌, ◌≤◌, Bool, true, false, cond, List, length, sym, subst, inl, inr, refl, arith, slice_index}
use Rattle.std.specs.Prelude.{min, max}
use Rattle.std.proofs.lemmas.Bool.{cases_Bool, cases_lt}
use Rattle.dm_graph.specs.Arcs.{Binds}
use Rattle.dm_graph.specs.Graph.{Meets}
use Rattle.dm_network.specs.Net.{Net, activity_at}
use Rattle.dm_network.specs.Held.{arcs_of, is_held}
use Rattle.dm_check_times.specs.Binding.{graph_with, is_due, MayBegin}
use Rattle.dm_marks.specs.Marked.{is_marked}
use Rattle.dm_check_times.specs.Following.{Follows}
use Rattle.dm_check_times.specs.Inside.Rising.{AreWithin}
use Rattle.dm_check_times.specs.Inside.Spreading.{IsClosed, HasReset}
use Rattle.dm_check_times.proofs.Spreading.{true_false, not_before}

-- a second less where the event is not stale and the other time is earlier
lowered : Bool → ℕ → ℕ → ℕ
lowered stale x y = cond stale x (min x (max y (x - 1)))

record IsLowered (stale : Bool) (x y z : ℕ) : Type 0 where
  below : z ≤ x
  near : x ≤ z + 1
  cause : z < x → (stale ≡ false) × (y < x)
  falls : stale ≡ false → y < x → z < x

lowered_number : (x y : ℕ) → IsLowered false x y (min x (max y (x - 1)))
lowered_number x y = record {
  below = omega arith;
  near = omega arith;
  cause = λ less. (refl, omega arith);
  falls = λ fresh less. omega arith;
}

lowered_is : (stale : Bool) (x y : ℕ) → IsLowered stale x y (lowered stale x y)
unfolding lowered
lowered_is true x y = record {
  below = omega arith;
  near = omega arith;
  cause = λ less. absurd (omega arith);
  falls = λ fresh less. absurd (let e : true ≡ false = fresh in cc);
}
lowered_is false x y = lowered_number x y

module _ (net : Net) (held : List Bool) (spans floors times : List ℕ) (stale : List Bool) (follows : Follows net held spans floors times stale) (closed : IsClosed net held spans times stale)
    (y : ℕ → ℕ) (meets : Meets (graph_with net held spans (slice_index floors)) y) where
  abbrev z : ℕ → ℕ
  z e = lowered (is_marked stale e) (slice_index times e) (y e)

  is_lowered : (e : ℕ) → IsLowered (is_marked stale e) (slice_index times e) (y e) (z e)
  is_lowered e = lowered_is (is_marked stale e) (slice_index times e) (y e)

  above : (e : ℕ) → e < length net.events → follows.floor_before e ≤ z e
  above e below =
      let low = is_lowered e in
      let near = low.near in
      let was = follows.least.meets.above e below in
      elim (cases_lt (z e) (slice_index times e)) [
        | inl less ↦
            let why = low.cause less in
            let earlier = why.1 in
            let floor = meets.above e below in
            elim (follows.floors_kept e below why.0) [
              | inl kept ↦ omega arith
              | inr loose ↦ omega arith
            ]
        | inr same ↦ omega arith
      ]

  along : (a : ℕ) → Binds (arcs_of net (is_held follows.held_before)) a → z (activity_at net a).tail + slice_index follows.spans_before a ≤ z (activity_at net a).head
  along a binds =
      let tail : ℕ = (activity_at net a).tail in
      let head : ℕ = (activity_at net a).head in
      let low_head = is_lowered head in
      let low_tail = is_lowered tail in
      let near = low_head.near in
      let under = low_tail.below in
      let met = follows.least.meets.along a binds in
      elim (cases_lt (z head) (slice_index times head)) [
        | inr same ↦ omega arith
        | inl less ↦
            let why = low_head.cause less in
            let earlier = why.1 in
            elim (cases_lt (slice_index times tail + slice_index follows.spans_before a) (slice_index times head)) [
              | inl loose ↦ omega arith
              | inr tight ↦
                  let kept = follows.held_kept a binds why.0 tight in
                  let longer = kept.1 in
                  let now : Binds (arcs_of net (is_held held)) a = record { is_arc = binds.is_arc; is_held = kept.0; from_event = binds.from_event; to_event = binds.to_event } in
                  let other = meets.along a now in
                  elim (cases_Bool (is_marked stale tail)) [
                    | inl marked ↦ true_false (closed a now marked (omega arith)) why.0
                    | inr fresh ↦
                        let falls = low_tail.falls fresh (omega arith) in
                        omega arith
                  ]
            ]
      ]

  pub still_early : (e : ℕ) → e < length net.events → is_marked stale e ≡ false → slice_index times e ≤ y e
  still_early e below fresh =
      elim (cases_lt (y e) (slice_index times e)) [
        | inl earlier ↦
            let least = follows.least.earliest z (record { above = above; along = along }) e below in
            let falls = (is_lowered e).falls fresh earlier in
            absurd (omega arith)
        | inr late ↦ late
      ]

-- more events may be stale
pub follows_more : (net : Net) (held : List Bool) (spans floors times : List ℕ) (stale more : List Bool) → ((e : ℕ) → is_marked stale e ≡ true → is_marked more e ≡ true) →
    Follows net held spans floors times stale → Follows net held spans floors times more
follows_more net held spans floors times stale more grows follows = record {
  held_before = follows.held_before;
  spans_before = follows.spans_before;
  floor_before = follows.floor_before;
  least = follows.least;
  floors_kept = λ e below fresh. follows.floors_kept e below (was e fresh);
  above = λ e below fresh. follows.above e below (was e fresh);
  held_kept = λ a binds fresh tight. follows.held_kept a binds (was _ fresh) tight;
  met = λ a binds fresh. follows.met a binds (was _ fresh);
}
  where
    was : (e : ℕ) → is_marked more e ≡ false → is_marked stale e ≡ false
    was e fresh = not_before (grows e) fresh

module _ (net : Net) (held : List Bool) (spans floors times new : List ℕ) (stale due : List Bool) (follows : Follows net held spans floors times stale) (closed : IsClosed net held spans times stale)
    (reset : HasReset net held floors (length net.events) stale times new due) where
  fresh_or_floor : (P : ℕ → ℕ → Type 0) (e : ℕ) → e < length net.events → (is_marked stale e ≡ true → P e (slice_index floors e)) → (is_marked stale e ≡ false → P e (slice_index times e)) → P e (slice_index new e)
  fresh_or_floor P e below floor kept = elim (cases_Bool (is_marked stale e)) [
    | inl is ↦ subst (P e) (sym (reset.there e below is)) (floor is)
    | inr fresh ↦ subst (P e) (sym (reset.elsewhere e (inr fresh))) (kept fresh)
  ]

  met : (a : ℕ) → Binds (arcs_of net (is_held held)) a → is_due due (activity_at net a).tail ≡ false → slice_index new (activity_at net a).tail + slice_index spans a ≤ slice_index new (activity_at net a).head
  met a binds not_due =
      elim (cases_Bool (is_marked stale (activity_at net a).head)) [
        | inl head ↦ true_false (reset.due_tails a binds binds.to_event head) not_due
        | inr fresh ↦ elim (cases_Bool (is_marked stale (activity_at net a).tail)) [
          | inl tail ↦ true_false (reset.due_self _ binds.from_event tail) not_due
          | inr both ↦
              let one = reset.elsewhere (activity_at net a).tail (inr both) in
              let two = reset.elsewhere (activity_at net a).head (inr fresh) in
              let was = follows.met a binds fresh in
              omega arith
        ]
      ]

  pub begins_again : MayBegin (graph_with net held spans (slice_index floors)) new due
  begins_again = record {
    above = λ e below. fresh_or_floor (λ i x. slice_index floors i ≤ x) e below (λ is. omega arith) (λ fresh. follows.above e below fresh);
    early = λ y meets e below. fresh_or_floor (λ i x. x ≤ y i) e below (λ is. meets.above e below) (λ fresh. still_early net held spans floors times stale follows closed y meets e below fresh);
    met = met;
  }

-- no time is later than times and floors are
pub within_again : (net : Net) (held : List Bool) (floors times new : List ℕ) (stale due : List Bool) (most : ℕ) → AreWithin times most → AreWithin floors most →
    HasReset net held floors (length net.events) stale times new due → AreWithin new most
within_again net held floors times new stale due most a b reset e =
    elim (cases_lt e (length net.events)) [
      | inl below ↦ elim (cases_Bool (is_marked stale e)) [
        | inl is ↦ let s = reset.there e below is in let w = b e in omega arith
        | inr fresh ↦ let s = reset.elsewhere e (inr fresh) in let w = a e in omega arith
      ]
      | inr past ↦ let s = reset.elsewhere e (inl past) in let w = a e in omega arith
    ]
