use Rattle.std.proofs.Common.{arith}
use Rattle.dm_bound.proofs.Keeps.{opens}
use Rattle.dm_bound.proofs.word.BoundWord.new.Goals as goal

pub of_words-requires : goal.of_words-requires
of_words-requires c = opens c.args.start c.args.seats c.requires (omega arith)
