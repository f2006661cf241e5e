use Rattle.dm_marks.proofs.Words.{clear_turns}
use Rattle.dm_marks.proofs.marks.clear_bit.Goals as goal

pub returns : goal.returns
returns c = clear_turns c.args.words.now c.args.place c.requires
