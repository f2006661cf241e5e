-- How times rise in a round.
use Rattle.std.specs.Prelude.{ℕ, ◌≡◌, ◌+◌, ◌*◌, ◌^◌, ◌<◌, ◌≤◌, ◌⊎◌, Bool, true, false, IsTrue, List, length, slice_index}
use Rattle.dm_base.specs.declared.limits.TheConstants.{EVENTS, BOUND, DELAY}
use Rattle.dm_graph.specs.Arcs.{Binds}
use Rattle.dm_graph.specs.Graph.{Graph}
use Rattle.dm_check_times.specs.Binding.{IsEarly, is_due}

-- the latest that an event may be after so many rounds, with so many events of the next one behind
abbrev pub latest : ℕ → ℕ → ℕ
latest rounds events = 2 ^ 38 + (rounds * EVENTS + events) * (BOUND + DELAY)

-- no event is later than this
abbrev pub AreWithin : List ℕ → ℕ → Type 0
AreWithin times most = (i : ℕ) → slice_index times i ≤ most

-- times have risen, and whatever has is due
pub record HaveRisen (old new : List ℕ) (before after : List Bool) : Type 0 where
  pub times : length new ≡ length old
  pub flags : length after ≡ length before
  pub no_fall : (i : ℕ) → slice_index old i ≤ slice_index new i
  pub stays_due : (i : ℕ) → is_due after i ≡ false → is_due before i ≡ false
  pub marked : (i : ℕ) → is_due after i ≡ false → slice_index new i ≡ slice_index old i
  pub cause : (i : ℕ) → is_due after i ≡ true → (is_due before i ≡ true) ⊎ (slice_index old i < slice_index new i)

-- the event at this place was to be no earlier than this time
pub record Raises (head time : ℕ) (old new : List ℕ) (before after : List Bool) : Type 0 where
  pub rise : HaveRisen old new before after
  pub reached : time ≤ slice_index new head
  pub only : (i : ℕ) → (slice_index new i ≡ slice_index old i) ⊎ ((i ≡ head) × (slice_index new i ≡ time))

-- early times are still early
abbrev pub StayEarly : Graph → List ℕ → List ℕ → Type 0
StayEarly g old new = IsEarly g (slice_index old) → IsEarly g (slice_index new)

-- the heads of the first n arcs of a row out of the event have risen
pub record HasRelaxed (g : Graph) (event from : ℕ) (row : List ℕ) (n : ℕ) (old new : List ℕ) (before after : List Bool) : Type 0 where
  pub rise : HaveRisen old new before after
  pub early : StayEarly g old new
  pub within : (most : ℕ) → from ≤ most → AreWithin old (most + (BOUND + DELAY)) → AreWithin new (most + (BOUND + DELAY))
  pub along : (k : ℕ) → k < n → IsTrue (g.shape.held (slice_index row k)) →
      from + g.span (slice_index row k) ≤ slice_index new (g.shape.head (slice_index row k))

-- the heads of the arcs that bind out of the event have risen
pub record Relaxes (g : Graph) (event : ℕ) (old new : List ℕ) (before after : List Bool) : Type 0 where
  pub rise : HaveRisen old new before after
  pub early : StayEarly g old new
  pub within : (most : ℕ) → AreWithin old most → AreWithin new (most + (BOUND + DELAY))
  pub along : (a : ℕ) → Binds g.shape a → g.shape.tail a ≡ event →
      slice_index old event + g.span a ≤ slice_index new (g.shape.head a)

-- each event that is not due binds no head that comes too soon
abbrev pub AreMet : Graph → List ℕ → List Bool → Type 0
AreMet g times due =
    (a : ℕ) → Binds g.shape a → is_due due (g.shape.tail a) ≡ false →
    slice_index times (g.shape.tail a) + g.span a ≤ slice_index times (g.shape.head a)

-- a round has come past the first n events
pub record HasSwept (g : Graph) (n : ℕ) (old new : List ℕ) (after : List Bool) : Type 0 where
  pub met : AreMet g new after
  pub no_fall : (i : ℕ) → slice_index old i ≤ slice_index new i
  pub early : StayEarly g old new
  pub along : (a : ℕ) → Binds g.shape a → g.shape.tail a < n →
      slice_index old (g.shape.tail a) + g.span a ≤ slice_index new (g.shape.head a)
  pub cause : (e : ℕ) → e < n → is_due after e ≡ true → slice_index old e < slice_index new e
