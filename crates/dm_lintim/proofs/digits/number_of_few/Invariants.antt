use Rattle.std.proofs.Common.{◌≡◌, ◌<◌, ◌^◌, take}
use Rattle.std.specs.Char.{IsAsciiDigit}
use Rattle.std.specs.List.{AllWithin}
use Rattle.dm_base.specs.Numbers.{whole_value}
use Rattle.dm_lintim.proofs.digits.number_of_few.Given as goal

abbrev pub invariant-loop-byte : goal.invariant-loop-byte
invariant-loop-byte l = record {
  digits : AllWithin IsAsciiDigit l.text 0 l.byte-index;
  number : l.number ≡ whole_value (take l.byte-index l.text);
  small : l.number < 10 ^ l.byte-index;
}
