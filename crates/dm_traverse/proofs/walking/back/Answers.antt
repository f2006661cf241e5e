use Rattle.std.proofs.Common.{arith}
use Rattle.std.proofs.lemmas.List.{get_or_default}
use Rattle.dm_traverse.proofs.Walks.{last_is}
use Rattle.dm_traverse.proofs.walking.back.Goals as goal

pub undecide_with-requires-clause-last : goal.undecide_with-requires-clause-last
undecide_with-requires-clause-last c =
    rw c.path-path.ensures
    (last_is c.args.evaluator.now.path _ c.requires.some (get_or_default c.args.evaluator.now.path _ _ _ (let some = c.requires.some in omega arith)))
