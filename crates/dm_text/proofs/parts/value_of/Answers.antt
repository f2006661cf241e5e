use Rattle.std.proofs.Common.{◌∙◌, ap, arith}
use Rattle.dm_base.specs.Numbers.{whole_value}
use Rattle.dm_base.proofs.NumberLemmas.{fewer_digits}
use Rattle.dm_text.proofs.Reading.{all_read}
use Rattle.dm_text.proofs.parts.value_of.Goals as goal

pub returns : goal.returns
returns c =
    let few = c.few_digits in
    let whole = few.ensures.value ∙ ap whole_value (all_read c.args.digits.now few.result.count c.requires few.ensures.within few.ensures.ends) in
    let small = fewer_digits few.result.count 19 (omega (arith, few.ensures.within)) in
    (omega (arith, whole, small, few.ensures.small), c.from.ensures ∙ whole)
