use Rattle.std.proofs.Common.{◌≡◌, length}
use Rattle.std.specs.Prelude.{◌==◌}
use Rattle.std.specs.List.{list_any}
use Rattle.std.specs.Prelude.{option_map}
use Rattle.dm_lintim.specs.Pieces.{pieces_left}
use Rattle.dm_words.specs.Inside.Pieces.{AreAllIds, numbers_left}
use Rattle.dm_words.proofs.ids.is_among.Given as goal

abbrev pub invariant-loop-other : goal.invariant-loop-other
invariant-loop-other l =
    AreAllIds (pieces_left (option_map (λ x. x.now) l.left))
    × (list_any (λ other. other == l.fn.id) (numbers_left (option_map (λ x. x.now) l.fn.all)) ≡ list_any (λ other. other == l.fn.id) (numbers_left (option_map (λ x. x.now) l.left)))

abbrev pub decreases-loop-other : goal.decreases-loop-other
decreases-loop-other l = length (numbers_left (option_map (λ x. x.now) l.left))
