-- A sweep goes on from one marked place to the next.
use Rattle.std.proofs.Common.{◌≡◌, ℕ, ◌+◌, ◌<◌, ◌≤◌, Bool, true, false, List, sym, ap, subst, ◌∙◌, arith, slice_index}
use Rattle.dm_graph.specs.Arrays.{AreRanks}
use Rattle.dm_graph.specs.Graph.{Graph}
use Rattle.dm_settle.specs.Constraints.{IsBounded}
use Rattle.dm_marks.specs.Marked.{is_marked, IsFirstFrom}
use Rattle.dm_settle.specs.Settling.{GoesForward, State}
use Rattle.dm_settle.specs.Inside.Sweep.{IsSweeping, HasRead, Renews, TailsAreEarly}
use Rattle.dm_settle.proofs.Early.{tails_are_early}
use Rattle.dm_settle.proofs.Sweeping.{sweeping_at, stays_on, moves_on}
use Rattle.dm_settle.proofs.Reading.{stays_read, moves_read}

module _ (g : Graph) (order ranks : List ℕ) (ranked : AreRanks g.shape.events order ranks)
    (marks0 : List Bool) (forward : GoesForward g.shape ranks marks0) (marks : List Bool) (times : List ℕ) (from next : ℕ)
    (sweeping : IsSweeping g ranks marks0 marks times from) (first : IsFirstFrom marks from next) where
  below : next < g.shape.events
  below = let w = first.within in let m = sweeping.unsettled.as_many_marks in omega arith

  is_event : slice_index order next < g.shape.events
  is_event = ranked.is_event next below

  pub is_next : slice_index ranks (slice_index order next) ≡ next
  is_next = ranked.is_ranked next below

  here : IsSweeping g ranks marks0 marks times (slice_index ranks (slice_index order next))
  here = subst (IsSweeping g ranks marks0 marks times) (sym is_next) (sweeping_at g ranks marks0 marks times from next sweeping first)

  marked : is_marked marks (slice_index ranks (slice_index order next)) ≡ true
  marked = ap (is_marked marks) is_next ∙ first.marked

  pub next_tails_are_early : IsBounded g → TailsAreEarly g times (slice_index order next)
  next_tails_are_early bounded =
      tails_are_early g ranks times marks0 bounded forward order ranked marks (slice_index order next) is_event here marked

  module _ (steps : ℕ) (after : State) where
    sweeps_if : (b : Bool) → Renews b g ranks (slice_index order next) (record { marks = marks; times = times; steps = steps }) after →
        IsSweeping g ranks marks0 after.marks after.times (slice_index ranks (slice_index order next) + 1)
    sweeps_if true m = moves_on g order ranks ranked marks0 forward marks times (slice_index order next) is_event here marked steps after m
    sweeps_if false s = stays_on g order ranks ranked marks0 forward marks times (slice_index order next) is_event here marked steps after s

    pub sweeps_on : (b : Bool) → Renews b g ranks (slice_index order next) (record { marks = marks; times = times; steps = steps }) after →
        IsSweeping g ranks marks0 after.marks after.times (next + 1)
    sweeps_on b r = subst (λ (k : ℕ). IsSweeping g ranks marks0 after.marks after.times (k + 1)) is_next (sweeps_if b r)

    module _ (start : State) (had : HasRead g.shape ranks start (record { marks = marks; times = times; steps = steps }) from) where
      onward : from ≤ slice_index ranks (slice_index order next)
      onward = let b = first.not_before in let n = is_next in omega arith

      reads_if : (b : Bool) → Renews b g ranks (slice_index order next) (record { marks = marks; times = times; steps = steps }) after →
          HasRead g.shape ranks start after (slice_index ranks (slice_index order next) + 1)
      reads_if true m =
          moves_read g order ranks ranked start (record { marks = marks; times = times; steps = steps }) from had
          sweeping.unsettled.as_many_marks sweeping.unsettled.as_many_times (slice_index order next) is_event onward marked after m
      reads_if false s =
          stays_read g order ranks ranked start (record { marks = marks; times = times; steps = steps }) from had
          sweeping.unsettled.as_many_marks sweeping.unsettled.as_many_times (slice_index order next) is_event onward marked after s

      pub reads_on : (b : Bool) → Renews b g ranks (slice_index order next) (record { marks = marks; times = times; steps = steps }) after →
          HasRead g.shape ranks start after (next + 1)
      reads_on b r = subst (λ (k : ℕ). HasRead g.shape ranks start after (k + 1)) is_next (reads_if b r)
