use Rattle.dm_feed.specs.declared.reader.NextLine.TheVariants.{Line, Nothing}
use Rattle.dm_feed.proofs.Feeding.{consumes_after, consumes_found, consumes_fails, grows_more, looked_more, holds_more}
use Rattle.dm_feed.proofs.reader.LineReader.next_line.Goals as goal

pub returns-in-Some-clause-consumes : goal.returns-in-Some-clause-consumes
returns-in-Some-clause-consumes g c =
    consumes_after g.S.Source.left g.S.Source.faults g.S.Source.is_sound c.args.self.now c.loop-at.self c.consume_ended.new.self (Line c.consume_ended.result)
    c.loop-at.invariant.grows c.loop-at.invariant.holds.later c.loop-at.invariant.holds.sound
    (consumes_found c.loop-at.self c.consume_ended.new.self c.in-Some.at c.consume_ended.result c.consume_ended.ensures.consumed c.in-Some.ensures
    c.loop-at.invariant.grows.open_still c.consume_ended.ensures.within c.consume_ended.ensures.hears)

pub returns-then-looked-clause-consumes : goal.returns-then-looked-clause-consumes
returns-then-looked-clause-consumes g c =
    consumes_after g.S.Source.left g.S.Source.faults g.S.Source.is_sound c.args.self.now c.loop-at.self c.skip_line.new.self c.skip_line.result
    c.loop-at.invariant.grows c.loop-at.invariant.holds.later c.loop-at.invariant.holds.sound c.skip_line.ensures.consumes

pub returns-in-Err-clause-consumes : goal.returns-in-Err-clause-consumes
returns-in-Err-clause-consumes g c =
    consumes_after g.S.Source.left g.S.Source.faults g.S.Source.is_sound c.args.self.now c.loop-at.self c.fill.new.self (Nothing c.in-Err.stop)
    c.loop-at.invariant.grows c.loop-at.invariant.holds.later c.loop-at.invariant.holds.sound
    (consumes_fails g.S.Source.left g.S.Source.faults g.S.Source.is_sound c.loop-at.self c.fill.new.self c.in-Err.stop c.in_default.ensures c.in-Err.ensures.stopped c.in-Err.ensures.err)

pub loop-at-preserved : goal.loop-at-preserved
loop-at-preserved g c = record {
  grows = grows_more _ c.loop-at.self c.fill.new.self c.in-Ok.field-0 c.loop-at.invariant.grows c.in-Ok.ensures.ok;
  looked = looked_more c.loop-at.self c.fill.new.self c.in-Ok.field-0 _ c.waiting-looked.ensures c.in_default.ensures c.in-Ok.ensures.ok;
  holds = holds_more g.S.Source.faults g.S.Source.is_sound _ c.loop-at.self c.fill.new.self c.loop-at.invariant.holds c.in-Ok.ensures.later c.in-Ok.ensures.stays_sound;
}
