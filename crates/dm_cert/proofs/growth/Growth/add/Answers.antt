use Rattle.dm_cert.proofs.Grown.{broken_beyond, broken_still}
use Rattle.dm_cert.proofs.growth.Growth.add.Goals as goal

pub returns-in-Whole : goal.returns-in-Whole
returns-in-Whole c = λ read grown. broken_beyond read _ _ (rw c.in-Whole.is at grown)

pub returns-in-Broken : goal.returns-in-Broken
returns-in-Broken c = λ read grown. broken_still read _ (rw c.in-Broken.is at grown)
