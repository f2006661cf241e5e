use Rattle.std.proofs.Common.{◌∙◌, sym}
use Rattle.dm_network.proofs.PairKeys.{joined_there}
use Rattle.dm_network.proofs.find.joins_at.Goals as goal

pub returns-then-place-pairs : goal.returns-then-place-pairs
returns-then-place-pairs c = λ joined. joined_there c.args.pairs.now c.requires c.args.place c.args.i c.args.j c.if-place-pairs.true (sym c.joins.ensures ∙ joined)
