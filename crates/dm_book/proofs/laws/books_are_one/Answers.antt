use Rattle.dm_book.proofs.OneBook.{books_are_one}
use Rattle.dm_book.proofs.laws.books_are_one.Goals as goal

pub returns : goal.returns
returns c = books_are_one
