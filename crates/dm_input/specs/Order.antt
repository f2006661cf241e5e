-- The order in which files are read and a network and its start rows are made, and what is one refusal.
use Rattle.std.specs.Prelude.{ℕ, ◌≡◌, ◌≤◌, Result, Ok, Err}
use Rattle.dm_network.specs.declared.parts.NetFault.{NetFault}
use Rattle.dm_network.specs.declared.parts.NetFault.TheVariants.{Cycle}
use Rattle.dm_input.specs.declared.flaws.File.{File}
use Rattle.dm_input.specs.declared.flaws.File.TheVariants.{Events, Activities, EventDelays, ActivityDelays, CancelledEvents}
use Rattle.dm_input.specs.declared.flaws.InputFlaw.{InputFlaw}
use Rattle.dm_input.specs.declared.flaws.InputFlaw.TheVariants.{InFile, Network, Start}

-- the stages: a file is read and checked, the network is made, the start rows are made
pub data Stage : Type 0 where
  reads : File → Stage
  makes_network : Stage
  makes_start_rows : Stage

-- where a stage stands in the order
abbrev pub stage_place : Stage → ℕ
stage_place (reads Events) = 0
stage_place (reads Activities) = 1
stage_place (reads EventDelays) = 2
stage_place (reads ActivityDelays) = 3
stage_place (reads CancelledEvents) = 4
stage_place makes_network = 5
stage_place makes_start_rows = 6

-- the stage that refuses
abbrev pub stage_of : InputFlaw → Stage
stage_of (InFile file why) = reads file
stage_of (Network fault) = makes_network
stage_of (Start fault) = makes_start_rows

-- the file is read before what is refused, or is what is refused
abbrev pub IsReadBy : File → InputFlaw → Type 0
IsReadBy file flaw = stage_place (reads file) ≤ stage_place (stage_of flaw)

-- the same refusal, but for which cycle is shown
abbrev pub SameFault : NetFault → NetFault → Type 0
SameFault (Cycle ids) (Cycle others) = Unit {0}
SameFault fault other = fault ≡ other

abbrev pub SameFlaw : InputFlaw → InputFlaw → Type 0
SameFlaw (Network fault) (Network other) = SameFault fault other
SameFlaw flaw other = flaw ≡ other

-- the same answer, where these refusals are the same
abbrev pub SameAnswer : {X F : Type 0} → (F → F → Type 0) → Result X F → Result X F → Type 0
SameAnswer Same (Ok x) (Ok y) = x ≡ y
SameAnswer Same (Err f) (Err g) = Same f g
SameAnswer Same (Ok x) (Err g) = ⊥
SameAnswer Same (Err f) (Ok y) = ⊥

-- all answers are the same
abbrev pub AreOne : {X F : Type 0} → (F → F → Type 0) → (Result X F → Type 0) → Type 0
AreOne {X} {F} Same Answers = (a b : Result X F) → Answers a → Answers b → SameAnswer Same a b

-- all answers are the same, but for which cycle is shown
abbrev pub IsOne : {X : Type 0} → (Result X InputFlaw → Type 0) → Type 0
IsOne Answers = AreOne SameFlaw Answers
