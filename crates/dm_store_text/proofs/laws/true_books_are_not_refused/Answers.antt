use Rattle.dm_store_text.proofs.Complete.{true_books_are_not_refused}
use Rattle.dm_store_text.proofs.laws.true_books_are_not_refused.Goals as goal

pub returns : goal.returns
returns c = true_books_are_not_refused
