use Rattle.std.proofs.Common.{List, take}
use Rattle.dm_restore.specs.Inside.Entering.{AreNamedSorted}
use Rattle.dm_rows.specs.declared.messages.Entry.{Entry}
use Rattle.dm_rows.specs.History.{IsLegal}
use Rattle.dm_cert.specs.Answers.{Setting}
use Rattle.dm_cert.specs.Logs.{AreTrueLogs}
use Rattle.dm_restore.proofs.Named.{AreNoted}
use Rattle.dm_restore.proofs.entries.entries_of.Given as goal

abbrev pub invariant-loop-place : goal.invariant-loop-place
invariant-loop-place l =
    ((s : Setting) (history : List Entry) → IsLegal s.net s.start history → AreTrueLogs s history l.logs → AreNoted s.net s.start history (take l.place l.logs) l.entries.items)
    × AreNamedSorted l.entries.items
