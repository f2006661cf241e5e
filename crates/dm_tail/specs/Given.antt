-- What a feed that grows has given.
use Rattle.std.specs.Prelude.{ℕ, List, ◌++◌, Option, None, Some, option_map}
use Rattle.std.specs.Option.{IsSomeAnd}
use mathlib.Core.List.{IsPrefix}

-- all that it had given, where it tells that, and these bytes behind
abbrev pub given_behind : Option (List ℕ) → List ℕ → Option (List ℕ)
given_behind given more = option_map (λ bytes. bytes ++ more) given

-- where the source is told, what was given is told too, and is a front of it
abbrev pub GivesFront : Option (List ℕ) → Option (List ℕ) → Type 0
GivesFront None given = Unit {0}
GivesFront (Some source) given = IsSomeAnd given (λ bytes. IsPrefix bytes source)
