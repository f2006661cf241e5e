use Rattle.std.proofs.Common.{◌≡◌, ◌||◌, map, drop, string_bytes}
use Rattle.std.specs.List.{list_all}
use Rattle.dm_words.specs.Options.{is_name, is_option, options_of}
use Rattle.dm_words.proofs.options.are_known.Given as goal

-- each word before the place is known
abbrev pub invariant-loop-word : goal.invariant-loop-word
invariant-loop-word l =
    list_all (λ word. is_name word || is_option (options_of l.kind) word) (map string_bytes l.words)
    ≡ list_all (λ word. is_name word || is_option (options_of l.kind) word) (map string_bytes (drop l.word-index l.words))
