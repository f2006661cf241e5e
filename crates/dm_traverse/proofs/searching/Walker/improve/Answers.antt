use Rattle.std.proofs.Common.{refl}
use Rattle.dm_traverse.proofs.Advancing.{stands_lower}
use Rattle.dm_traverse.proofs.searching.Walker.improve.Goals as goal

pub better-requires : goal.better-requires
better-requires c = record { best = c.requires.are_best }

pub returns-clause-stands : goal.returns-clause-stands
returns-clause-stands c =
    stands_lower _ _ _ _ _ _ _ refl c.in_ok-better.ensures.no_dearer c.in_ok-better.ensures.best c.requires
