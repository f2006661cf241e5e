use Rattle.std.proofs.Common.{◌≡◌, ◌*◌, map}
use Rattle.std.specs.List.{range_with_len}
use Rattle.dm_gen.specs.Draws.{state_after}
use Rattle.dm_gen.specs.Feed.{feed_line}
use Rattle.dm_gen.proofs.feed.feed_of.Given as goal

abbrev pub invariant-loop-line : goal.invariant-loop-line
invariant-loop-line l = (l.draws.state ≡ state_after l.fn.number (2 * l._line)) × (l.lines.items ≡ map (feed_line l.fn.number l.trains) (range_with_len 0 l._line))
