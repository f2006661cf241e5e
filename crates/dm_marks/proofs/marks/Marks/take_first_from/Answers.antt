use Rattle.std.proofs.Common.{rules, ℕ, List, subst}
use Rattle.dm_marks.specs.Inside.Words.{Turns, IsFirstBit}
use Rattle.dm_marks.proofs.Words.{cleared_kept, first_near}
use Rattle.dm_marks.proofs.marks.Marks.take_first_from.Goals as goal

pub invariant_of-self : goal.invariant_of-self
invariant_of-self c =
    let marks = c.self.inside in
    let first =
    first_near marks.flags.items marks.words.items marks.groups.items c.args.from c.in-Some.place c.self.invariant
    (subst (λ (words : List ℕ). IsFirstBit words c.args.from c.in-Some.place) c.deref_mut.ensures.value c.in-Some.ensures.first) in
    cleared_kept marks.flags.items marks.words.items c.take_in_word.new.words _ marks.groups.items marks.words.len c.in-Some.place (search rules) first.within c.self.invariant
    (subst (λ (words : List ℕ). Turns words c.take_in_word.new.words c.in-Some.place 0) c.deref_mut.ensures.value c.in-Some.ensures.taken)

pub returns-in-Some-clause-first : goal.returns-in-Some-clause-first
returns-in-Some-clause-first c =
    let marks = c.self.inside in
    rw (← c.self.view_is)
    (first_near marks.flags.items marks.words.items marks.groups.items c.args.from c.in-Some.place c.self.invariant
    (subst (λ (words : List ℕ). IsFirstBit words c.args.from c.in-Some.place) c.deref_mut.ensures.value c.in-Some.ensures.first))
