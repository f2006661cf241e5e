use Rattle.std.proofs.Common.{◌≡◌}
use Rattle.dm_check.proofs.Logs.{HasLogs}
use Rattle.dm_check.proofs.told_items.Logs.all_logs.Given as goal

abbrev pub invariant-loop-place : goal.invariant-loop-place
invariant-loop-place l = record {
  told :
      HasLogs l.initial.self.replay.journal.setting l.initial.self.replay.journal.history l.feeds l.initial.lines l.initial.self.named.items l.lines l.place l.plans l.self.named.items;
  same : l.self.replay.journal ≡ l.initial.self.replay.journal;
}
