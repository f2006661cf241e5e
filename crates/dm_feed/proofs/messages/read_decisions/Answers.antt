use Rattle.std.proofs.Common.{sym}
use Rattle.dm_feed.specs.Words.{words_of}
use Rattle.dm_feed.proofs.Cutting.{some_from}
use Rattle.dm_feed.proofs.Deciding.{read_more, read_all, read_stuck, shorter, none_from}
use Rattle.dm_feed.proofs.messages.read_decisions.Goals as goal

pub loop-decision-smaller : goal.loop-decision-smaller
loop-decision-smaller c = shorter (words_of c.loop-decision.rest.now) (words_of c.in-Some.behind.now) c.in-Some.decision (sym c.in-Some.ensures)

pub loop-decision-preserved : goal.loop-decision-preserved
loop-decision-preserved c =
    read_more (words_of c.args.words.now) (words_of c.loop-decision.rest.now) (words_of c.in-Some.behind.now) c.loop-decision.decisions.items c.push.new.self.items c.in-Some.decision
    c.in-Ok.ensures.items (sym c.in-Some.ensures) c.loop-decision.invariant

pub returns-then-not-are_none : goal.returns-then-not-are_none
returns-then-not-are_none c =
    read_stuck (words_of c.args.words.now) (words_of c.loop-decision.rest.now) c.loop-decision.decisions.items (sym c.in_default.ensures) (some_from _ (sym c.if-not-are_none.ensures)) c.loop-decision.invariant

pub returns : goal.returns
returns c = read_all (words_of c.args.words.now) (words_of c.loop-decision.rest.now) c.loop-decision.decisions.items (none_from _ (sym c.if-not-are_none.ensures)) c.loop-decision.invariant
