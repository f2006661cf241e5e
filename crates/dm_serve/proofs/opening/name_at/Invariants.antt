use Rattle.std.proofs.Common.{◌≡◌, drop}
use Rattle.dm_words.specs.Asked.{names_in}
use Rattle.dm_serve.proofs.opening.name_at.Given as goal

-- the names that are left
abbrev pub invariant-loop-item : goal.invariant-loop-item
invariant-loop-item l = names_in l.rest ≡ drop l._item (names_in l.fn.names)
