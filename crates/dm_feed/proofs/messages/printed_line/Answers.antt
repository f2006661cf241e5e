use Rattle.std.proofs.Common.{◌∙◌, sym}
use Rattle.dm_feed.specs.Words.{words_of}
use Rattle.dm_feed.proofs.Printed.{wordless_fails, unnamed_fails, unsorted_words, words_say}
use Rattle.dm_feed.proofs.messages.printed_line.Goals as goal

pub returns-in_default : goal.returns-in_default
returns-in_default c = wordless_fails (words_of c.args.words.now) c.in_default.ensures

pub returns-in_default-word_of : goal.returns-in_default-word_of
returns-in_default-word_of c = unnamed_fails (words_of c.args.words.now) c.in-Some.first.now (words_of c.in-Some.rest.now) c.in-Some.ensures (sym c.in_default-word_of.ensures)

pub returns-then-not-are_sorted : goal.returns-then-not-are_sorted
returns-then-not-are_sorted c =
    unsorted_words (words_of c.args.words.now) c.in-Some-word_of.word c.in-Some.first.now (words_of c.in-Some.rest.now) c.in-Some.ensures (sym c.in-Some-word_of.ensures) (sym c.are_sorted.ensures ∙ c.if-not-are_sorted.true)

pub returns : goal.returns
returns c =
    words_say (words_of c.args.words.now) c.in-Some-word_of.word c.in-Some.first.now (words_of c.in-Some.rest.now) c.line_behind.result c.in-Some.ensures (sym c.in-Some-word_of.ensures)
    (sym c.are_sorted.ensures ∙ c.if-not-are_sorted.false) (sym c.line_behind.ensures)
