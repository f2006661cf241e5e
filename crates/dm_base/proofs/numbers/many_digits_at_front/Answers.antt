use Rattle.std.proofs.Common.{◌<◌, length, get_or, arith}
use Rattle.std.specs.Char.{IsAsciiDigit}
use Rattle.dm_base.proofs.NumberLemmas.{digit_more, whole_value_more}
use Rattle.dm_base.proofs.numbers.many_digits_at_front.Goals as goal

pub loop-i-preserved : goal.loop-i-preserved
loop-i-preserved c =
    let low : c.loop-i.i < length c.args.text.now = omega arith in
    let digit : IsAsciiDigit (get_or c.args.text.now c.loop-i.i 0) = grind arith in
    record {
      digits = digit_more c.args.text.now c.loop-i.i low c.loop-i.invariant.digits digit;
      value = rw (whole_value_more c.args.text.now c.loop-i.i low) (c.with_digit-value.ensures _ c.loop-i.invariant.value);
    }
