use Rattle.std.proofs.Common.{sym, arith}
use Rattle.dm_text.proofs.Reading.{front_digits, read_unless_plain, read_none, read_above, read_number}
use Rattle.dm_text.proofs.parts.number_in_front.Goals as goal

pub returns-then-not-is_plain-clause-reads : goal.returns-then-not-is_plain-clause-reads
returns-then-not-is_plain-clause-reads c = read_unless_plain c.args.largest _ _ c.digits_in_front-end.ensures (sym c.if-not-is_plain.ensures)

pub value_of-requires : goal.value_of-requires
value_of-requires c = rw c.digits_in_front-end.ensures (front_digits c.args.line.now)

pub returns-in_default-clause-reads : goal.returns-in_default-clause-reads
returns-in_default-clause-reads c = read_none c.args.largest _ _ c.digits_in_front-end.ensures (omega arith) c.in_default.ensures

pub returns-then-value-largest-clause-reads : goal.returns-then-value-largest-clause-reads
returns-then-value-largest-clause-reads c =
    read_above c.args.largest _ c.in-Some.value _ c.digits_in_front-end.ensures c.in-Some.ensures c.if-value-largest.true

pub returns-clause-reads : goal.returns-clause-reads
returns-clause-reads c =
    read_number c.args.largest _ c.in-Some.value _ c.digits_in_front-end.ensures (sym c.if-not-is_plain.ensures) c.in-Some.ensures
    c.if-value-largest.false
