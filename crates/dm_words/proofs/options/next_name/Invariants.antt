use Rattle.std.proofs.Common.{◌≡◌, map, filter, drop, string_bytes}
use Rattle.dm_words.specs.Options.{is_name}
use Rattle.dm_words.proofs.options.next_name.Given as goal

-- no word before the place is a name
abbrev pub invariant-loop-place : goal.invariant-loop-place
invariant-loop-place l = filter is_name (map string_bytes l.words) ≡ filter is_name (map string_bytes (drop l.place l.words))
