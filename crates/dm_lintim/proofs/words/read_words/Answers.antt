use Rattle.dm_lintim.proofs.ColumnLemmas.{read_more}
use Rattle.dm_lintim.proofs.words.read_words.Goals as goal

pub loop-rest-preserved : goal.loop-rest-preserved
loop-rest-preserved c =
    let read = rw (c.in-Some.is, c.first_piece.ensures) at c.loop-rest.invariant in
    read_more _ _ _ _ _ _ read c.in_ok-add_word.ensures.adds
