use Rattle.dm_marks.proofs.Words.{set_turns}
use Rattle.dm_marks.proofs.marks.set_bit.Goals as goal

pub returns : goal.returns
returns c = set_turns c.args.words.now c.args.place c.requires
