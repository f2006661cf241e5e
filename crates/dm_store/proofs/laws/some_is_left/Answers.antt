use Rattle.dm_store.specs.Memory.{first_image, was_shown_of}
use Rattle.dm_store.proofs.Leaving.{left_before}
use Rattle.dm_store.proofs.laws.some_is_left.Goals as goal

pub returns : goal.returns
returns c = λ store count told within. left_before store.done.items count (first_image store.first.items (was_shown_of store)) _ told.0
