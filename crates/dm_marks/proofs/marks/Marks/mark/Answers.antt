use Rattle.std.proofs.Common.{rules}
use Rattle.dm_marks.proofs.Words.{marked_kept}
use Rattle.dm_marks.proofs.marks.Marks.mark.Goals as goal

pub invariant_of-self : goal.invariant_of-self
invariant_of-self c =
    let marks = c.self.inside in
    marked_kept marks.flags.items marks.words.items c.set_told.new.words _ marks.groups.items c.set_told.new.groups _ marks.words.len marks.groups.len c.args.place
    (search rules) (search rules) (search rules) c.self.invariant (search rules) (search rules)
