use Rattle.dm_traverse.proofs.Walks.{taken_back}
use Rattle.dm_traverse.proofs.walking.undecide_with.Goals as goal

pub returns-clause-path : goal.returns-clause-path
returns-clause-path g c =
    taken_back _ _ _ _ _ c.requires.evaluator.is_path c.requires.last (rw c.choice.ensures at c.undecide.ensures.path)
