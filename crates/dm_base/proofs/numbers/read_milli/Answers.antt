use Rattle.std.proofs.Common.{arith}
use Rattle.std.proofs.lemmas.List.{take_rest}
use Rattle.dm_base.specs.Numbers.{IsMilliText, milli_value}
use Rattle.dm_base.proofs.NumberLemmas.{milli_ending, milli_reads, not_a_number_exactly, too_large_exactly}
use Rattle.dm_base.proofs.numbers.read_milli.Goals as goal

pub returns-in_default-clause-reads : goal.returns-in_default-clause-reads
returns-in_default-clause-reads c =
    let front = c.digits_at_front-front in
    λ form. c.in_default.ensures (rw (take_rest c.args.text.now front.result.len) (milli_ending c.args.text.now front.result.len front.ensures.within front.ensures.digits front.ensures.ends form).1)

pub returns-in_default-clause-not_a_number : goal.returns-in_default-clause-not_a_number
returns-in_default-clause-not_a_number c = not_a_number_exactly _ (milli_value c.args.text.now) _ (returns-in_default-clause-reads c)

pub returns-in_default-clause-too_large : goal.returns-in_default-clause-too_large
returns-in_default-clause-too_large c = too_large_exactly (IsMilliText c.args.text.now) (milli_value c.args.text.now) _ (returns-in_default-clause-reads c)

pub returns-clause-reads : goal.returns-clause-reads
returns-clause-reads c =
    let front = c.digits_at_front-front in
    let rest = rw (take_rest c.args.text.now front.result.len) at c.in-Some.ensures in
    rw (c.ok_or.ensures.value)
    (milli_reads c.args.text.now front.result.len c.in-Some.thousandths c.joined.result front.ensures.within (omega arith) front.ensures.digits rest.0 rest.1
    (c.joined.ensures _ front.ensures.value))

pub returns-clause-not_a_number : goal.returns-clause-not_a_number
returns-clause-not_a_number c = not_a_number_exactly _ _ _ (returns-clause-reads c)

pub returns-clause-too_large : goal.returns-clause-too_large
returns-clause-too_large c = too_large_exactly _ _ _ (returns-clause-reads c)
