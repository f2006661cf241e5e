use Rattle.std.proofs.Common.{refl}
use Rattle.dm_traverse.proofs.Fronts.{itself_in_front}
use Rattle.dm_traverse.proofs.walking.make.Goals as goal

pub returns-then-not-is_open-clause-path : goal.returns-then-not-is_open-clause-path
returns-then-not-is_open-clause-path c = itself_in_front _ _ refl
