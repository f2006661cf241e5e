use Rattle.std.proofs.Common.{sym, ◌∙◌}
use Rattle.dm_feed.proofs.Cutting.{some_from, word_found, word_last}
use Rattle.dm_feed.proofs.words.next_word.Goals as goal

pub returns-in-Some : goal.returns-in-Some
returns-in-Some c =
    sym c.skip_spaces-rest.ensures.same
    ∙ word_found _ _ _ (some_from _ (sym c.if-is_empty.ensures)) c.skip_spaces-rest.ensures.word (sym c.in-Some.ensures)

pub returns-in-None : goal.returns-in-None
returns-in-None c =
    sym c.skip_spaces-rest.ensures.same
    ∙ word_last _ (some_from _ (sym c.if-is_empty.ensures)) (sym c.in-None.ensures)
