use Rattle.std.proofs.Common.{sym, ◌∙◌}
use Rattle.dm_feed.proofs.Messaging.{plain_more, plain_fails, plain_last, fewer_pieces}
use Rattle.dm_feed.proofs.messages.is_plain.Goals as goal

pub loop-word-preserved : goal.loop-word-preserved
loop-word-preserved c = plain_more c.loop-word.rest.now c.in-Some.word.now c.in-Some.behind.now (sym c.in-Some.ensures) (sym c.if-not-is_plain_word.ensures) ∙ c.loop-word.invariant

pub loop-word-smaller : goal.loop-word-smaller
loop-word-smaller c = fewer_pieces c.loop-word.rest.now c.in-Some.word.now c.in-Some.behind.now (sym c.in-Some.ensures)

pub returns-then-not-is_plain_word : goal.returns-then-not-is_plain_word
returns-then-not-is_plain_word c = sym (sym c.loop-word.invariant ∙ plain_fails c.loop-word.rest.now c.in-Some.word.now c.in-Some.behind.now (sym c.in-Some.ensures) (sym c.if-not-is_plain_word.ensures))

pub returns : goal.returns
returns c = c.is_plain_word-2.ensures ∙ (plain_last c.loop-word.rest.now (sym c.in_default.ensures) ∙ c.loop-word.invariant)
