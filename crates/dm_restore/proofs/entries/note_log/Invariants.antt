use Rattle.std.proofs.Common.{◌≡◌, ◌≤◌, List, [], length, take}
use Rattle.std.specs.Option.{option_copied}
use Rattle.dm_base.specs.declared.limits.TheConstants.{ENTRIES}
use Rattle.dm_rows.specs.declared.messages.Entry.{Entry}
use Rattle.dm_cert.specs.Answers.{Setting, latest_plan}
use Rattle.dm_cert.specs.Logs.{AreTrueAnswers}
use Rattle.dm_restore.specs.Inside.Entering.{Agrees, AreNamedSorted, Notes, choices_in}
use Rattle.dm_restore.proofs.entries.note_log.Given as goal

abbrev pub invariant-loop-item : goal.invariant-loop-item
invariant-loop-item l =
    record {
      latest : option_copied l.latest ≡ choices_in (latest_plan (take l.item-index l.items));
      noted : (s : Setting) (history : List Entry) → length history ≤ ENTRIES → AreTrueAnswers s history l.feed [] l.items → Agrees s.net s.start history l.fn.entries.items →
          Notes s.net s.start history (take l.item-index l.items) l.fn.entries.items l.entries.items;
      sorted : AreNamedSorted l.fn.entries.items → AreNamedSorted l.entries.items;
    }
