-- How far the stale events have been found, and their times begun anew.
use Rattle.std.specs.Prelude.{ℕ, ◌≡◌, ◌+◌, ◌<◌, ◌≤◌, ◌⊎◌, Bool, true, false, IsTrue, List, length, slice_index}
use Rattle.dm_graph.specs.Arcs.{Binds}
use Rattle.dm_network.specs.Net.{Net, activity_at}
use Rattle.dm_network.specs.Held.{arcs_of, is_held}
use Rattle.dm_check_times.specs.Binding.{is_due}
use Rattle.dm_marks.specs.Marked.{is_marked}

-- each head that a stale tail holds to its time is stale
abbrev pub IsClosed : Net → List Bool → List ℕ → List ℕ → List Bool → Type 0
IsClosed net held spans times stale =
    (a : ℕ) → Binds (arcs_of net (is_held held)) a → is_marked stale (activity_at net a).tail ≡ true →
    slice_index times (activity_at net a).head ≤ slice_index times (activity_at net a).tail + slice_index spans a →
    is_marked stale (activity_at net a).head ≡ true

-- the same but for tails that are due, and what was stale still is
pub record HasSpread (net : Net) (held : List Bool) (spans times : List ℕ) (before stale due : List Bool) : Type 0 where
  pub grows : (e : ℕ) → is_marked before e ≡ true → is_marked stale e ≡ true
  pub closed : (a : ℕ) → Binds (arcs_of net (is_held held)) a → is_marked stale (activity_at net a).tail ≡ true →
      is_due due (activity_at net a).tail ≡ false →
      slice_index times (activity_at net a).head ≤ slice_index times (activity_at net a).tail + slice_index spans a →
      is_marked stale (activity_at net a).head ≡ true

-- more events are stale, and whichever is new is due
pub record Spreads (before after due_before due_after : List Bool) : Type 0 where
  pub as_many : length after ≡ length before
  pub as_many_due : length due_after ≡ length due_before
  pub grows : (e : ℕ) → is_marked before e ≡ true → is_marked after e ≡ true
  pub due_grows : (e : ℕ) → is_due due_before e ≡ true → is_due due_after e ≡ true
  pub cause : (e : ℕ) → is_marked after e ≡ true → (is_marked before e ≡ true) ⊎ (is_due due_after e ≡ true)

-- the event is stale now
pub record SpreadsTo (event : ℕ) (before after due_before due_after : List Bool) : Type 0 where
  pub spreads : Spreads before after due_before due_after
  pub there : is_marked after event ≡ true

-- the head of the activity is stale where it is held and its tail, at this time, holds it to its time
pub record SpreadsAlong (net : Net) (held : List Bool) (spans times : List ℕ) (from a : ℕ)
    (before after due_before due_after : List Bool) : Type 0 where
  pub spreads : Spreads before after due_before due_after
  pub head : IsTrue (is_held held a) → slice_index times (activity_at net a).head ≤ from + slice_index spans a →
      is_marked after (activity_at net a).head ≡ true

-- the first n activities of a row out of an event have been looked at
pub record HasSpreadTo (net : Net) (held : List Bool) (spans times : List ℕ) (from : ℕ) (row : List ℕ) (n : ℕ)
    (before after due_before due_after : List Bool) : Type 0 where
  pub spreads : Spreads before after due_before due_after
  pub heads : (k : ℕ) → k < n → IsTrue (is_held held (slice_index row k)) →
      slice_index times (activity_at net (slice_index row k)).head ≤ from + slice_index spans (slice_index row k) →
      is_marked after (activity_at net (slice_index row k)).head ≡ true

-- each head that the event holds to its time is stale
pub record SpreadsFrom (net : Net) (held : List Bool) (spans times : List ℕ) (event : ℕ)
    (before after due_before due_after : List Bool) : Type 0 where
  pub spreads : Spreads before after due_before due_after
  pub heads : (a : ℕ) → Binds (arcs_of net (is_held held)) a → (activity_at net a).tail ≡ event →
      slice_index times (activity_at net a).head ≤ slice_index times event + slice_index spans a →
      is_marked after (activity_at net a).head ≡ true

-- ---- times begun anew

-- the tail of the activity is due where this is held
pub record MarksTail (net : Net) (held : List Bool) (a : ℕ) (before after : List Bool) : Type 0 where
  pub as_many : length after ≡ length before
  pub grows : (e : ℕ) → is_due before e ≡ true → is_due after e ≡ true
  pub tail : IsTrue (is_held held a) → is_due after (activity_at net a).tail ≡ true

-- the tails of the first n activities of a row into an event are due where these are held
pub record HasMarkedTailsTo (net : Net) (held : List Bool) (row : List ℕ) (n : ℕ) (before after : List Bool) : Type 0 where
  pub as_many : length after ≡ length before
  pub grows : (e : ℕ) → is_due before e ≡ true → is_due after e ≡ true
  pub tails : (k : ℕ) → k < n → IsTrue (is_held held (slice_index row k)) → is_due after (activity_at net (slice_index row k)).tail ≡ true

-- the tails of all held activities into the event are due
pub record HasMarkedTails (net : Net) (held : List Bool) (event : ℕ) (before after : List Bool) : Type 0 where
  pub as_many : length after ≡ length before
  pub grows : (e : ℕ) → is_due before e ≡ true → is_due after e ≡ true
  pub tails : (a : ℕ) → Binds (arcs_of net (is_held held)) a → (activity_at net a).head ≡ event →
      is_due after (activity_at net a).tail ≡ true

-- of the first n events the stale ones have their floors, and they and the tails that are held to them are due
pub record HasReset (net : Net) (held : List Bool) (floors : List ℕ) (n : ℕ) (stale : List Bool) (old new : List ℕ)
    (due : List Bool) : Type 0 where
  pub as_many : length new ≡ length old
  pub there : (e : ℕ) → e < n → is_marked stale e ≡ true → slice_index new e ≡ slice_index floors e
  pub elsewhere : (e : ℕ) → (n ≤ e) ⊎ (is_marked stale e ≡ false) → slice_index new e ≡ slice_index old e
  pub due_self : (e : ℕ) → e < n → is_marked stale e ≡ true → is_due due e ≡ true
  pub due_tails : (a : ℕ) → Binds (arcs_of net (is_held held)) a → (activity_at net a).head < n →
      is_marked stale (activity_at net a).head ≡ true → is_due due (activity_at net a).tail ≡ true

-- the stale events from n on are still to come
pub record IsResetting (net : Net) (held : List Bool) (floors : List ℕ) (n : ℕ) (stale rest : List Bool) (old new : List ℕ)
    (due : List Bool) : Type 0 where
  pub done : HasReset net held floors n stale old new due
  pub left : (e : ℕ) → n ≤ e → is_marked rest e ≡ is_marked stale e
  pub none : (e : ℕ) → e < n → is_marked rest e ≡ false
  pub as_many : length rest ≡ length stale
