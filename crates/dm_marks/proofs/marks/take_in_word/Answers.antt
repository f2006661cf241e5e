use Rattle.std.proofs.Common.{arith, ◌/◌, ◌%◌, ◌+◌, ◌^◌, w64}
use Rattle.std.specs.Prelude.{slice_index}
use Rattle.std.specs.Int.{trailing_zeros}
use Rattle.dm_marks.proofs.Words.{none_in_word, first_of_word, stays_in_word, take_turns}
use Rattle.dm_marks.proofs.marks.take_in_word.Goals as goal

pub returns-then-rest-eq0-clause-none : goal.returns-then-rest-eq0-clause-none
returns-then-rest-eq0-clause-none c = none_in_word c.args.words.now c.args.from c.if-rest-eq0.true

pub returns-clause-first : goal.returns-clause-first
returns-clause-first c = first_of_word c.args.words.now c.args.from c.requires.within (omega arith) c.if-rest-eq0.false

pub returns-clause-taken : goal.returns-clause-taken
returns-clause-taken c =
    let words = c.args.words.now in
    let from = c.args.from in
    let near = stays_in_word words from (omega arith) c.if-rest-eq0.false in
    take_turns words from (from + trailing_zeros w64 (slice_index words (from / 64) / 2 ^ (from % 64))) c.requires.within (omega (arith, near))
