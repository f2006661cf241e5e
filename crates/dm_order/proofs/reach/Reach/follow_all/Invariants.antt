use Rattle.std.proofs.Common.{◌≡◌, length, take}
use Rattle.dm_order.specs.Inside.Reaching.{followed_all}
use Rattle.dm_order.proofs.reach.Reach.follow_all.Given as goal

abbrev pub invariant-loop-a : goal.invariant-loop-a
invariant-loop-a g l = record {
  causes : l.self.causes.items ≡ followed_all l.net l.held l.ranked.ranks.now l.at l.high l.initial.self.causes.items (take l.a-index l.a-items);
  as_many : length l.self.causes.items ≡ length l.initial.self.causes.items;
}
