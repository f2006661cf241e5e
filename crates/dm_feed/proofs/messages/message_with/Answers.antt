use Rattle.std.proofs.Common.{◌∙◌, sym, ap, subst, Some, List}
use Rattle.dm_rows.specs.declared.messages.Decision.{Decision}
use Rattle.dm_feed.specs.declared.vocabulary.Word.{Word}
use Rattle.dm_feed.specs.Words.{words_of}
use Rattle.dm_feed.specs.Inside.Deciding.{AreDecisions}
use Rattle.dm_feed.proofs.Messaging.{adopt_fails, adopt_reads, no_line_fails, no_message_fails, unsorted_fails, line_says}
use Rattle.dm_feed.proofs.messages.message_with.Goals as goal

pub returns-in-Err : goal.returns-in-Err
returns-in-Err c =
    adopt_fails (words_of c.args.words.now) c.in-Some.first.now (words_of c.in-Some.rest.now) c.in-Err.fault c.in-Some.ensures
    (sym c.in-Some-word_of.ensures ∙ ap (λ (w : Word). Some w) c.in-Adopt.is) c.in-Err.ensures

pub returns-in-Adopt : goal.returns-in-Adopt
returns-in-Adopt c =
    adopt_reads (words_of c.args.words.now) c.in-Some.first.now (words_of c.in-Some.rest.now) c.from_vec.result c.in-Some.ensures
    (sym c.in-Some-word_of.ensures ∙ ap (λ (w : Word). Some w) c.in-Adopt.is)
    (subst (λ (ds : List Decision). AreDecisions ds (words_of c.in-Some.rest.now)) (sym c.from_vec.ensures) c.in-Ok.ensures)

pub returns-in_default-line_behind : goal.returns-in_default-line_behind
returns-in_default-line_behind c =
    no_line_fails (words_of c.args.words.now) c.in-Some-word_of.word c.in-Some.first.now (words_of c.in-Some.rest.now) c.in-Some.ensures c.in_default-word.not-Adopt
    (sym c.in-Some-word_of.ensures) (sym c.in_default-line_behind.ensures)

pub returns-in_default-message_of : goal.returns-in_default-message_of
returns-in_default-message_of c =
    no_message_fails (words_of c.args.words.now) c.in-Some-word_of.word c.in-Some.first.now (words_of c.in-Some.rest.now) c.in-Some-line_behind.line c.in-Some.ensures c.in_default-word.not-Adopt
    (sym c.in-Some-word_of.ensures) (sym c.in-Some-line_behind.ensures) (sym c.in_default-message_of.ensures)

pub returns : goal.returns
returns c =
    line_says (words_of c.args.words.now) c.in-Some-word_of.word c.in-Some.first.now (words_of c.in-Some.rest.now) c.in-Some-line_behind.line c.in-Some-message_of.message
    c.in-Some.ensures (sym c.in-Some-word_of.ensures) (sym c.are_sorted.ensures ∙ c.if-not-are_sorted.false) (sym c.in-Some-line_behind.ensures) (sym c.in-Some-message_of.ensures)
