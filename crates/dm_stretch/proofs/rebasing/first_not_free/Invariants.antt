use Rattle.std.proofs.Common.{◌≡◌, ℕ, ◌<◌, Some}
use Rattle.std.specs.Prelude.{slice_get}
use Rattle.dm_rows.specs.declared.messages.Decision.{Decision}
use Rattle.dm_stretch.specs.Rebasing.{DecidesFree}
use Rattle.dm_stretch.proofs.rebasing.first_not_free.Given as goal

abbrev pub invariant-loop-decision : goal.invariant-loop-decision
invariant-loop-decision l =
    (k : ℕ) (e : Decision) → k < l.decision-index → slice_get l.decisions k ≡ Some e → DecidesFree l.net l.rows e
