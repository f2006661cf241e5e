use Rattle.std.proofs.Common.{eqb, ◌-◌, length, take, drop}
use Rattle.dm_feed.proofs.Feeding.{first_is_position, no_feed, feed_at}
use Rattle.dm_feed.proofs.reader.line_feed.Goals as goal

pub returns-in_default : goal.returns-in_default
returns-in_default c =
    no_feed c.args.bytes.now c.args.from c.requires.unended
    (first_is_position (λ b. eqb b 10) (take (length c.args.bytes.now - c.args.from) (drop c.args.from c.args.bytes.now)) _ c.in_default.ensures)

pub returns : goal.returns
returns c =
    feed_at c.args.bytes.now c.args.from c.in-Some.place c.requires.within c.requires.unended
    (first_is_position (λ b. eqb b 10) (take (length c.args.bytes.now - c.args.from) (drop c.args.from c.args.bytes.now)) _ c.in-Some.ensures)
