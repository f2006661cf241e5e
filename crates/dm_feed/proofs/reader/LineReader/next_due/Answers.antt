use Rattle.std.proofs.Common.{sym, subst}
use Rattle.dm_feed.specs.declared.feed.Next.{Next}
use Rattle.dm_feed.specs.Feeds.{Answers}
use Rattle.dm_feed.proofs.Feeding.{quiet_none, quiet_more, due_ended, due_last, end_last, stops, consumes_some, holds_none, holds_more}
use Rattle.dm_feed.proofs.reader.LineReader.next_due.Goals as goal

pub loop-heard-init : goal.loop-heard-init
loop-heard-init g c = record { quiet = quiet_none _ c.requires.open; holds = holds_none _ _ _ }

pub returns-then-is_due-clause-answers : goal.returns-then-is_due-clause-answers
returns-then-is_due-clause-answers g c =
    subst (λ (n : Next). Answers g.S.Source.left g.S.Source.faults g.S.Source.is_sound c.args.self.now c.next_line.new.self n) (sym c.due.ensures)
    (due_ended c.args.self.now c.loop-heard.self c.next_line.new.self c.in-Line.heard c.if-is_due.ensures c.loop-heard.invariant.quiet c.in-Line.ensures.consumes)

pub loop-heard-smaller : goal.loop-heard-smaller
loop-heard-smaller g c = consumes_some g.S.Source.left c.loop-heard.self c.next_line.new.self c.in-Line.heard c.in-Line.ensures.consumes

pub loop-heard-preserved : goal.loop-heard-preserved
loop-heard-preserved g c = record {
  quiet = quiet_more _ c.loop-heard.self c.next_line.new.self c.in-Line.heard c.if-is_due.ensures c.loop-heard.invariant.quiet c.in-Line.ensures.consumes;
  holds = holds_more g.S.Source.faults g.S.Source.is_sound _ c.loop-heard.self c.next_line.new.self c.loop-heard.invariant.holds c.in-Line.ensures.later c.in-Line.ensures.stays_sound;
}

pub returns-then-is_due-2-clause-answers : goal.returns-then-is_due-2-clause-answers
returns-then-is_due-2-clause-answers g c =
    subst (λ (n : Next). Answers g.S.Source.left g.S.Source.faults g.S.Source.is_sound c.args.self.now c.next_line.new.self n) (sym c.due-then-is_due-2.ensures)
    (due_last c.args.self.now c.loop-heard.self c.next_line.new.self c.in-Last.heard c.if-is_due-2.ensures c.loop-heard.invariant.quiet c.in-Last.ensures.consumes)

pub returns-in-Last-clause-answers : goal.returns-in-Last-clause-answers
returns-in-Last-clause-answers g c =
    end_last c.args.self.now c.loop-heard.self c.next_line.new.self c.in-Last.heard c.if-is_due-2.ensures c.loop-heard.invariant.quiet c.in-Last.ensures.consumes

pub returns-in-Nothing-clause-answers : goal.returns-in-Nothing-clause-answers
returns-in-Nothing-clause-answers g c =
    stops g.S.Source.left g.S.Source.faults g.S.Source.is_sound c.args.self.now c.loop-heard.self c.next_line.new.self c.in-Nothing.stop
    c.loop-heard.invariant.holds.later c.loop-heard.invariant.holds.sound c.loop-heard.invariant.quiet c.in-Nothing.ensures.consumes
