use Rattle.std.proofs.Common.{◌≡◌, map, drop, string_bytes}
use Rattle.dm_words.specs.Options.{values_of}
use Rattle.dm_words.proofs.options.next_value.Given as goal

-- no word before the place is the option
abbrev pub invariant-loop-place : goal.invariant-loop-place
invariant-loop-place l = values_of l.option (map string_bytes l.words) ≡ values_of l.option (map string_bytes (drop l.place l.words))
