use Rattle.std.proofs.Common.{◌^◌, ◌<◌, take, SomeIff}
use Rattle.std.specs.Char.{IsAsciiDigit}
use Rattle.std.specs.List.{AllWithin}
use Rattle.dm_base.specs.Numbers.{whole_value}
use Rattle.dm_base.proofs.numbers.many_digits_at_front.Given as goal

abbrev pub invariant-loop-i : goal.invariant-loop-i
invariant-loop-i l = record {
  digits : AllWithin IsAsciiDigit l.text 0 l.i;
  value : SomeIff l.value (whole_value (take l.i l.text) < 2 ^ 64) (whole_value (take l.i l.text));
}
