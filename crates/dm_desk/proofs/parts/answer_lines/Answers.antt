use Rattle.std.proofs.Common.{arith}
use Rattle.dm_desk.proofs.PartByPart.{none_answered, answered_more, within_batch, part_answered}
use Rattle.dm_desk.proofs.parts.answer_lines.Goals as goal

pub loop-answered-init : goal.loop-answered-init
loop-answered-init g c = record {
  so_far = none_answered c.args.part.now c.args.passed (g.D.Desk.value c.args.desk.now) c.args.feed c.args.log.now.items c.requires.legal c.requires.are_true;
  few = omega arith;
}

pub returns-in_default : goal.returns-in_default
returns-in_default g c = part_answered _ _ _ _ _ _ _ _ _ _ _ c.loop-answered.invariant.few (λ lt. c.in_default.ensures) c.loop-answered.invariant.so_far

pub loop-answered-preserved : goal.loop-answered-preserved
loop-answered-preserved g c = record {
  so_far =
      answered_more _ _ _ _ _ _ _ _ _ _ _ _ c.in-Some.heard c.in-Some.behind.now c.in_ok-answered.field-0 c.loop-answered.invariant.so_far c.in-Some.ensures
      c.in_ok-answered.ensures;
  few = within_batch _ _ _ _ _ _ _ _ _ _ c.loop-answered-test.true c.in_ok-answered.ensures;
}

pub returns : goal.returns
returns g c = part_answered _ _ _ _ _ _ _ _ _ _ _ c.loop-answered.invariant.few (λ lt. absurd (omega (arith, lt, c.loop-answered-test.false))) c.loop-answered.invariant.so_far
