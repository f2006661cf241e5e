use Rattle.dm_order.specs.Inside.Reaching.{HasReached}
use Rattle.dm_order.proofs.reach.Reach.reach.Given as goal

abbrev pub invariant-loop-place : goal.invariant-loop-place
invariant-loop-place l = HasReached l.net l.held l.ranked.ranks.now l.low l.high l.place l.self.causes.items

abbrev pub ghosts-follow_all : goal.ghosts-follow_all
ghosts-follow_all a = record { name = a.blank.name; parts = a.blank.parts }
