-- One feed's part of a round, and how the parts are put together.
use Rattle.std.specs.Prelude.{ℕ, ◌≡◌, ◌+◌, Bool, true, false, List, [], length, slice_get, sum_by, All, Option, Some, Result, OnOk}
use mathlib.Core.List.{IsPrefix}
use Rattle.atomic_table.specs.Seated.{TableId}
use Rattle.dm_rows.specs.History.{IsLegal}
use Rattle.dm_desk.specs.Answered.{times, HasSeenLegal, AreTrueOf}
use Rattle.dm_rounds.specs.declared.jobs.Job.{Job}
use Rattle.dm_rounds.specs.declared.jobs.Progress.{Progress}
use Rattle.dm_rounds.specs.declared.jobs.Progress.TheVariants.{Reading, Ended}
use Rattle.dm_rounds.specs.Inside.Jobs.{CanRead, StepsFrom}
use Rattle.dm_server.specs.declared.kept.Base.{Base}
use Rattle.dm_turn.specs.Passes.{PassValue}
use Rattle.dm_crew.specs.declared.work.Work.{Work}
use Rattle.dm_crew.specs.Passes.{numbers_in, desk_of, IsSamePass}

-- a pass that is split from another has seen as much, and has made nothing
abbrev pub split_of : PassValue Base → PassValue Base
split_of main = record main { holds = false; room = 1; mine = [] }

-- the pass is an idle one of the server, the reader may be asked, and the log is true of what the pass has seen
pub record IsReady {S : Type 0} (turn : TableId) (plans : ℕ) (base : Base) (feed : ℕ) (pass : PassValue Base) (job : Job S) : Type 0 where
  pub here : pass.turn ≡ turn
  pub idle : pass.holds ≡ false
  pub based : pass.base ≡ Some base
  pub legal : HasSeenLegal (desk_of plans base pass)
  pub can_read : CanRead job.progress
  pub are_true : AreTrueOf (desk_of plans base pass) feed job.log.items

-- the next lines were answered over the pass, or memory was wanting
pub record IsWorked {S E : Type 0} (left : S → Option (List ℕ)) (is_sound : S → Type 0) (plans : ℕ) (base : Base)
    (batch feed : ℕ) (pass : PassValue Base) (job : Job S) (now : PassValue Base) (after : Job S)
    (answer : Result (Unit {0}) E) : Type 0 where
  pub same : IsSamePass pass now
  pub steps : OnOk answer (StepsFrom left is_sound job.progress job.log.items after (desk_of plans base pass)
      (desk_of plans base now) feed batch)

-- the next lines of each feed were answered over its pass, or memory was wanting
abbrev pub AreWorkedEach : {S : Type 0} → (S → Option (List ℕ)) → (S → Type 0) → ℕ → Base → ℕ → List (Work S) → List (Work S) → Type 0
AreWorkedEach {S} left is_sound plans base batch works after =
    (k : ℕ) (w v : Work S) → slice_get works k ≡ Some w → slice_get after k ≡ Some v → (v.feed ≡ w.feed)
    × IsWorked left is_sound plans base batch w.feed w.pass w.job.value v.pass v.job.value v.answer

-- a feed that is still read
abbrev pub is_read : {S : Type 0} → Progress S → Bool
is_read (Reading reader) = true
is_read (Ended stop) = false

-- these passes were joined into a main one: it has seen what each has, all of it legal, and has their entries
pub record IsGathered (base : Base) (start now : PassValue Base) (passes : List (PassValue Base)) : Type 0 where
  pub same : now ≡ record start { room = start.room + length passes; seen = now.seen; mine = now.mine }
  pub later : IsPrefix start.seen now.seen
  pub latest : All (λ pass. IsPrefix pass.seen now.seen) passes
  pub legal : IsLegal base.network base.start now.seen
  pub mine : (n : ℕ) → times n (numbers_in now.mine) ≡ times n (numbers_in start.mine) + sum_by
      (λ pass. times n (numbers_in pass.mine)) passes

-- the first pass of a server with no entries, which has all its seats
abbrev pub first_pass : TableId → Base → ℕ → PassValue Base
first_pass turn base seats = record { turn = turn; base = Some base; opening = 0; holds = false; room = seats; seen = []; mine = [] }
