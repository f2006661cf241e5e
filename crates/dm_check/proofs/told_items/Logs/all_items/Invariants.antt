use Rattle.std.proofs.Common.{◌≡◌}
use Rattle.dm_check.proofs.Items.{HasItems}
use Rattle.dm_check.proofs.told_items.Logs.all_items.Given as goal

abbrev pub invariant-loop-item : goal.invariant-loop-item
invariant-loop-item l = record {
  told :
      HasItems l.initial.self.replay.journal.setting l.initial.self.replay.journal.history l.feed l.count l.initial.lines l.initial.self.named.items l.lines l._item l.past l.self.named.items;
  same : l.self.replay.journal ≡ l.initial.self.replay.journal;
}
