use Rattle.std.proofs.Common.{refl, arith}
use Rattle.dm_catch_up.proofs.Comparing.{passed_more, stops_there, compared}
use Rattle.dm_catch_up.proofs.catching.compare_part.Goals as goal

pub returns-in_default-clause-same : goal.returns-in_default-clause-same
returns-in_default-clause-same c =
    compared c.args.part.now c.loop-same.rest.now c.args.passed c.loop-same.lines c.loop-same.same _ c.args.items.now c.loop-same.invariant refl
    (λ lt. c.in_default.ensures)

pub returns-in-Err-clause-other : goal.returns-in-Err-clause-other
returns-in-Err-clause-other c =
    stops_there c.args.part.now c.loop-same.rest.now c.args.passed c.loop-same.lines c.loop-same.same c.args.items.now c.loop-same.invariant
    c.in-Some.heard c.in-Some.behind.now c.in-Some.ensures c.index-items-same.result c.in-Err.stop c.loop-same-test.true c.index-items-same.is c.in-Err.ensures.other

pub loop-same-preserved-in-Ok-2 : goal.loop-same-preserved-in-Ok-2
loop-same-preserved-in-Ok-2 c =
    passed_more c.args.part.now c.loop-same.rest.now c.args.passed c.loop-same.lines c.loop-same.same c.args.items.now c.loop-same.invariant
    c.in-Some.heard c.in-Some.behind.now c.in-Some.ensures c.index-items-same.result c.in-Ok.count c.loop-same-test.true c.index-items-same.is c.in-Ok.ensures.passed

pub loop-same-preserved-in-Ok-3 : goal.loop-same-preserved-in-Ok-3
loop-same-preserved-in-Ok-3 c =
    passed_more c.args.part.now c.loop-same.rest.now c.args.passed c.loop-same.lines c.loop-same.same c.args.items.now c.loop-same.invariant
    c.in-Some.heard c.in-Some.behind.now c.in-Some.ensures c.index-items-same.result c.in-Ok.count c.loop-same-test.true c.index-items-same.is c.in-Ok.ensures.passed

pub loop-same-preserved : goal.loop-same-preserved
loop-same-preserved c =
    passed_more c.args.part.now c.loop-same.rest.now c.args.passed c.loop-same.lines c.loop-same.same c.args.items.now c.loop-same.invariant
    c.in-Some.heard c.in-Some.behind.now c.in-Some.ensures c.index-items-same.result c.in-Ok.count c.loop-same-test.true c.index-items-same.is c.in-Ok.ensures.passed

pub returns-clause-same : goal.returns-clause-same
returns-clause-same c =
    compared c.args.part.now c.loop-same.rest.now c.args.passed c.loop-same.lines c.loop-same.same _ c.args.items.now c.loop-same.invariant refl
    (λ lt. absurd (omega (arith, lt, c.loop-same-test.false)))
