use Rattle.std.proofs.Common.{◌≡◌, ◌<◌, ◌^◌, take}
use Rattle.std.specs.Char.{IsAsciiDigit}
use Rattle.std.specs.List.{AllWithin}
use Rattle.dm_base.specs.Numbers.{whole_value}
use Rattle.dm_base.proofs.numbers.few_digits.Given as goal

abbrev pub invariant-loop-count : goal.invariant-loop-count
invariant-loop-count l = record {
  digits : AllWithin IsAsciiDigit l.text 0 l.count;
  number : l.value ≡ whole_value (take l.count l.text);
  small : l.value < 10 ^ l.count;
}
