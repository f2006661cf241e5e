-- What holds at a start: of a run that is read back.
use Rattle.std.specs.Prelude.{map}
use Rattle.dm_network.specs.Net.{Net}
use Rattle.dm_rows.specs.Rows.{RowsValue}
use Rattle.dm_cert.specs.Answers.{Setting}
use Rattle.dm_book.specs.Books.{Book}
use Rattle.dm_restore.specs.declared.heads.Head.{Head}
use Rattle.dm_restore.specs.declared.restoring.Restored.{Restored}

-- what answers go by
abbrev pub setting_of_head : Net → RowsValue → Head → Setting
setting_of_head net start head = record { net = net; start = start; penalty = head.penalty; plans = head.plans; version = 2 }

-- the book of a run that was read back
abbrev pub book_back : Restored → Book
book_back back = record { history = back.desk.table.history; logs = map (λ log. log.items) back.logs.items }
