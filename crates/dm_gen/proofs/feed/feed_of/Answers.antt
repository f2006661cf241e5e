use Rattle.std.proofs.Common.{◌≡◌, [], arith}
use Rattle.dm_gen.specs.Feed.{feed_line}
use Rattle.dm_gen.proofs.Growing.{more_items, next_draws, line_drawn, feed_whole}
use Rattle.dm_gen.proofs.feed.feed_of.Goals as goal

pub loop-line-preserved : goal.loop-line-preserved
loop-line-preserved c = (
  next_draws c.args.number c.loop-line._line c.loop-line.draws.state c.next_line.new.draws.state c.next_line.ensures.moved
      c.loop-line.invariant.0,
  more_items (feed_line c.args.number c.args.trains) [] c.loop-line.lines.items c.push.new.self.items c.loop-line._line
      c.next_line.result c.in_ok-push.ensures.items
      (line_drawn c.args.number c.args.trains c.loop-line._line c.loop-line.draws.state c.next_line.new.draws.state
      c.next_line.result c.next_line.ensures.line c.next_line.ensures.moved c.loop-line.invariant.0)
      c.loop-line.invariant.1,
)

pub returns : goal.returns
returns c =
    let e : c.loop-line._line ≡ 500 = omega (arith, c.loop-line-test.false, c.loop-line.auto._line-end) in
    feed_whole c.args.number c.args.trains c.loop-line._line c.loop-line.lines.items e c.loop-line.invariant.1
