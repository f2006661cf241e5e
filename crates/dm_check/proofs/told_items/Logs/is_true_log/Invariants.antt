use Rattle.std.proofs.Common.{◌≡◌, take}
use Rattle.dm_check.proofs.Truth.InMemory.{ItemsSoFar}
use Rattle.dm_check.proofs.told_items.Logs.is_true_log.Given as goal

abbrev pub invariant-loop-item : goal.invariant-loop-item
invariant-loop-item l = record {
  so_far : ItemsSoFar l.initial.self.replay.journal.setting l.initial.self.replay.journal.history l.feed l.past l.initial.self.named.items l.self.named.items (take l.item-index l.items);
  same : l.self.replay.journal ≡ l.initial.self.replay.journal;
}
