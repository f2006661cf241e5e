use Rattle.std.proofs.Common.{arith, ◌/◌}
use Rattle.dm_marks.proofs.Words.{none_in_word, first_of_word}
use Rattle.dm_marks.proofs.marks.first_in_word.Goals as goal

pub returns-then-rest-eq0-clause-none : goal.returns-then-rest-eq0-clause-none
returns-then-rest-eq0-clause-none c = none_in_word c.args.words.now c.args.from c.if-rest-eq0.true

pub returns-clause-first : goal.returns-clause-first
returns-clause-first c = first_of_word c.args.words.now c.args.from c.requires.within (omega (arith, c.type_inv.words (c.args.from / 64))) c.if-rest-eq0.false
