use Rattle.std.proofs.Common.{refl}
use Rattle.std.proofs.lemmas.List.{take_all}
use Rattle.dm_report.specs.Printed.{labelled}
use Rattle.dm_outside.proofs.Printing.{prints_next, prints_fault_next, prints_fault}
use Rattle.dm_report.proofs.Printed.{breaks_as, prints_last_as, labelled_is}
use Rattle.dm_report.proofs.words.put_labelled.Goals as goal

pub loop-one-preserved : goal.loop-one-preserved
loop-one-preserved g c = prints_next _ _ _ c.loop-one-test.true refl c.loop-one.invariant c.in-Ok.ensures

pub returns-in_default : goal.returns-in_default
returns-in_default g c =
    breaks_as (labelled_is (λ one. one.0.now) (λ one. one.1) c.args.numbers.now c.args.last.now)
    (prints_fault c.args.last.now (prints_fault_next _ _ _ c.loop-one-test.true refl c.loop-one.invariant c.in_default.ensures))

pub returns : goal.returns
returns g c =
    let all = rw (take_all c.loop-one.one-index c.args.numbers.now c.loop-one-test.false) at c.loop-one.invariant in
    prints_last_as c.put_bytes.new.sink c.put_bytes.new.self c.args.last.now (labelled (λ one. one.0.now) (λ one. one.1) c.args.numbers.now c.args.last.now)
    c.put_bytes.result (labelled_is (λ one. one.0.now) (λ one. one.1) c.args.numbers.now c.args.last.now) all (rw c.as_bytes.ensures.value at c.put_bytes.ensures)
