use Rattle.std.proofs.Common.{length, ap, arith}
use Rattle.dm_tape.proofs.Leading.{walk_begins, walk_goes, walk_within, walk_ends, walk_cut, walk_none}
use Rattle.dm_tape.proofs.begins.begin_of.Goals as goal

pub loop-lines-init : goal.loop-lines-init
loop-lines-init c = walk_begins c.args.bytes.now c.args.line _ c.new-lines.ensures

pub loop-lines-preserved : goal.loop-lines-preserved
loop-lines-preserved c =
    walk_goes c.args.bytes.now c.args.line c.loop-lines.lines _ c.in-Some.field-0.now c.loop-lines.invariant
    (omega (arith, c.line.ensures, c.loop-lines-test.true)) c.in-Some.ensures

pub returns-in_default-clause-at : goal.returns-in_default-clause-at
returns-in_default-clause-at c = λ byte begins.
    absurd (walk_cut c.args.bytes.now c.args.line c.loop-lines.lines c.loop-lines.invariant
    (omega (arith, c.line.ensures, c.loop-lines-test.true)) c.in_default.ensures.0 byte begins)

pub overflow_sub-result : goal.overflow_sub-result
overflow_sub-result c =
    omega (arith, walk_within c.args.bytes.now c.args.line c.loop-lines.lines c.loop-lines.invariant, ap length c.left.ensures)

pub returns-clause-at : goal.returns-clause-at
returns-clause-at c = λ byte begins.
    let there = walk_ends c.args.bytes.now c.args.line c.loop-lines.lines c.loop-lines.invariant (omega (arith, c.line.ensures, c.loop-lines-test.false)) byte begins in
    omega (arith, there, ap length c.left.ensures)

pub returns-clause-none : goal.returns-clause-none
returns-clause-none c = λ none.
    omega (arith, walk_none c.args.bytes.now c.args.line c.loop-lines.lines c.loop-lines.invariant none, ap length c.left.ensures)
