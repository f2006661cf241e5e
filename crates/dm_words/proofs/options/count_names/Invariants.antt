use Rattle.std.proofs.Common.{◌≡◌, ◌≤◌, ◌+◌, length, map, filter, drop, string_bytes}
use Rattle.dm_words.specs.Options.{is_name}
use Rattle.dm_words.proofs.options.count_names.Given as goal

-- the names before the place are counted
abbrev pub invariant-loop-word : goal.invariant-loop-word
invariant-loop-word l =
    (l.count + length (filter is_name (map string_bytes (drop l.word-index l.words))) ≡ length (filter is_name (map string_bytes l.words)))
    × (l.count ≤ l.word-index)
