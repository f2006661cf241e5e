use Rattle.std.proofs.Common.{◌≡◌, take}
use Rattle.dm_check.proofs.Truth.InMemory.{LogsSoFar}
use Rattle.dm_check.proofs.told_items.Logs.are_true.Given as goal

abbrev pub invariant-loop-place : goal.invariant-loop-place
invariant-loop-place l = record {
  so_far : LogsSoFar l.initial.self.replay.journal.setting l.initial.self.replay.journal.history l.initial.self.named.items l.self.named.items (take l.place l.logs);
  same : l.self.replay.journal ≡ l.initial.self.replay.journal;
}
