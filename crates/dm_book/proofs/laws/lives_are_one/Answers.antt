use Rattle.dm_book.proofs.Growing.{lives_are_one}
use Rattle.dm_book.proofs.laws.lives_are_one.Goals as goal

pub returns : goal.returns
returns c = lives_are_one
