use Rattle.std.proofs.Common.{◌<◌, length, arith}
use Rattle.dm_base.proofs.NumberLemmas.{whole_value_more}
use Rattle.dm_text.proofs.parts.value_of_many.Goals as goal

pub loop-digit-preserved : goal.loop-digit-preserved
loop-digit-preserved c =
    let low : c.loop-digit.digit-index < length c.args.digits.now = omega arith in
    rw (whole_value_more c.args.digits.now c.loop-digit.digit-index low) (c.with_digit-value.ensures _ c.loop-digit.invariant)
