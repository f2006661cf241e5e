use Rattle.std.proofs.Common.{◌≡◌, List, [], ◌++◌, length}
use Rattle.dm_rows.specs.declared.messages.Entry.{Entry}
use Rattle.dm_rows.specs.History.{IsLegal}
use Rattle.dm_table_desk.specs.Tables.{setting_of}
use Rattle.dm_restore.specs.Inside.Entering.{AreEntries, AreNamedSorted, AreSorted}
use Rattle.dm_restore.proofs.Named.{EnteredSo}
use Rattle.dm_restore.proofs.entries.enter_all.Given as goal

abbrev pub invariant-loop-entry : goal.invariant-loop-entry
invariant-loop-entry l =
    record {
      whole : l.yielded ++ l.entry-iterator.rest.items ≡ l.fn.entries.items;
      setting : setting_of l.desk.plans l.desk.table ≡ setting_of l.fn.desk.plans l.fn.desk.table;
      entered : l.fn.desk.table.history ≡ [] → (history : List Entry) → IsLegal l.fn.desk.table.network l.fn.desk.table.start history → AreEntries l.fn.desk.table.network l.fn.desk.table.start history l.fn.entries.items →
          EnteredSo history (length l.yielded) l.desk.table.history;
      sorted : AreNamedSorted l.fn.entries.items → AreSorted l.fn.desk.table.history → AreSorted l.desk.table.history;
    }
