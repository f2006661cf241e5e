use Rattle.std.proofs.Common.{◌<◌, arith, get_or, length}
use Rattle.std.specs.Char.{IsAsciiDigit}
use Rattle.dm_base.proofs.NumberLemmas.{digit_more, fewer_digits, one_digit_more, whole_value_more}
use Rattle.dm_base.proofs.numbers.few_digits.Goals as goal

pub overflow_mul-value : goal.overflow_mul-value
overflow_mul-value c =
    let few = fewer_digits c.loop-count.count 18 (omega arith) in
    omega (arith, few)

pub overflow_add-value : goal.overflow_add-value
overflow_add-value c =
    let few = fewer_digits c.loop-count.count 18 (omega arith) in
    let digit : IsAsciiDigit (get_or c.args.text.now c.loop-count.count 0) = grind arith in
    omega (arith, few, digit)

pub loop-count-preserved : goal.loop-count-preserved
loop-count-preserved c =
    let low : c.loop-count.count < length c.args.text.now = omega arith in
    let digit : IsAsciiDigit (get_or c.args.text.now c.loop-count.count 0) = grind arith in
    let under : c.from.result < 10 = omega (arith, digit) in
    record {
      digits = digit_more c.args.text.now c.loop-count.count low c.loop-count.invariant.digits digit;
      number = rw (whole_value_more c.args.text.now c.loop-count.count low) (omega arith);
      small = one_digit_more c.loop-count.value c.from.result c.loop-count.count c.loop-count.invariant.small under;
    }
