use Rattle.std.proofs.Common.{◌≡◌, ◌-◌, ◌≤◌}
use Rattle.dm_check_answers.proofs.replay.Replay.go_to.Given as goal

abbrev pub invariant-loop-self : goal.invariant-loop-self
invariant-loop-self l = record { same : l.self.journal ≡ l.initial.self.journal; below : l.self.entry ≤ l.entry }

abbrev pub decreases-loop-self : goal.decreases-loop-self
decreases-loop-self l = l.entry - l.self.entry
