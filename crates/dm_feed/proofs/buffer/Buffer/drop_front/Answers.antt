use Rattle.std.proofs.Common.{◌∙◌, ap, drop}
use Rattle.dm_feed.proofs.Buffers.{later_start}
use Rattle.dm_feed.proofs.buffer.Buffer.drop_front.Goals as goal

pub returns : goal.returns
returns c = later_start c.self.inside.start c.args.count c.self.inside.end c.self.inside.bytes ∙ ap (drop c.args.count) c.self.view_is
