use Rattle.dm_feed.proofs.Feeding.{drops_fails, drops_found, drops_more, holds_more, holds_same}
use Rattle.dm_feed.proofs.reader.LineReader.skip_line.Goals as goal

pub returns-in-Err-clause-consumes : goal.returns-in-Err-clause-consumes
returns-in-Err-clause-consumes g c =
    drops_fails g.S.Source.left g.S.Source.faults g.S.Source.is_sound c.args.self.now c.loop-stop.self c.fill.new.self c.in-Err.stop
    c.loop-stop.invariant.holds.later c.loop-stop.invariant.holds.sound c.loop-stop.invariant.drops c.in-Err.ensures.stopped c.in-Err.ensures.err

pub returns-in-Some-clause-consumes : goal.returns-in-Some-clause-consumes
returns-in-Some-clause-consumes g c =
    drops_found c.args.self.now c.loop-stop.self c.fill.new.self c.consume_to.new.self c.in-Ok.field-0 c.in-Some.at c.consume_to.ensures.consumed
    c.requires.long c.loop-stop.invariant.drops c.in-Ok.ensures.ok c.in-Some.ensures

pub loop-stop-preserved : goal.loop-stop-preserved
loop-stop-preserved g c = record {
  drops = drops_more _ c.loop-stop.self c.fill.new.self c.drop_pending-in-loop-stop.new.self c.in-Ok.field-0 c.drop_pending-in-loop-stop.ensures.dropped
      c.loop-stop.invariant.drops c.in-Ok.ensures.ok c.in_default.ensures;
  holds = holds_same g.S.Source.faults g.S.Source.is_sound _ c.fill.new.self c.drop_pending-in-loop-stop.new.self c.drop_pending-in-loop-stop.ensures.dropped
      (holds_more g.S.Source.faults g.S.Source.is_sound _ c.loop-stop.self c.fill.new.self c.loop-stop.invariant.holds c.in-Ok.ensures.later c.in-Ok.ensures.stays_sound);
}
