use Rattle.std.proofs.Common.{◌<◌, arith, get_or, length}
use Rattle.std.specs.Char.{IsAsciiDigit}
use Rattle.dm_base.proofs.NumberLemmas.{digit_more, whole_value_more}
use Rattle.dm_lintim.proofs.DigitLemmas.{few_digits, one_digit_more}
use Rattle.dm_lintim.proofs.digits.number_of_few.Goals as goal

pub overflow_mul-number : goal.overflow_mul-number
overflow_mul-number c =
    let few = few_digits c.loop-byte.byte-index 14 (omega arith) in
    omega (arith, few)

pub overflow_add-number : goal.overflow_add-number
overflow_add-number c =
    let few = few_digits c.loop-byte.byte-index 14 (omega arith) in
    let digit : IsAsciiDigit (get_or c.args.text.now c.loop-byte.byte-index 0) = grind arith in
    omega (arith, few, digit)

pub loop-byte-preserved : goal.loop-byte-preserved
loop-byte-preserved c =
    let low : c.loop-byte.byte-index < length c.args.text.now = omega arith in
    let digit : IsAsciiDigit (get_or c.args.text.now c.loop-byte.byte-index 0) = grind arith in
    let under : c.from.result < 10 = omega (arith, digit) in
    record {
      digits = digit_more c.args.text.now c.loop-byte.byte-index low c.loop-byte.invariant.digits digit;
      number = rw (whole_value_more c.args.text.now c.loop-byte.byte-index low) (omega arith);
      small = one_digit_more c.loop-byte.number c.from.result c.loop-byte.byte-index c.loop-byte.invariant.small under;
    }

pub returns-clause-small : goal.returns-clause-small
returns-clause-small c =
    let few = few_digits c.loop-byte.byte-index 15 (omega arith) in
    omega (arith, few)
