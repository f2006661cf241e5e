use Rattle.std.proofs.Common.{rules}
use Rattle.dm_book.specs.Books.{head_text}
use Rattle.dm_restore.proofs.heads.put_head.Goals as goal

pub returns : goal.returns
unfolding head_text
returns g c = search rules
