use Rattle.std.proofs.Common.{◌^◌, ◌<◌, take, SomeIff}
use Rattle.dm_base.specs.Numbers.{whole_value}
use Rattle.dm_text.proofs.parts.value_of_many.Given as goal

abbrev pub invariant-loop-digit : goal.invariant-loop-digit
invariant-loop-digit l = SomeIff l.value (whole_value (take l.digit-index l.digits) < 2 ^ 128) (whole_value (take l.digit-index l.digits))
