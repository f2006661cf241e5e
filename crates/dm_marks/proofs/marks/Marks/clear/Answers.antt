use Rattle.std.proofs.Common.{rules}
use Rattle.dm_marks.proofs.Words.{cleared_kept}
use Rattle.dm_marks.proofs.marks.Marks.clear.Goals as goal

pub invariant_of-self : goal.invariant_of-self
invariant_of-self c =
    let marks = c.self.inside in
    cleared_kept marks.flags.items marks.words.items c.clear_bit.new.words _ marks.groups.items marks.words.len c.args.place (search rules) (search rules) c.self.invariant (search rules)
