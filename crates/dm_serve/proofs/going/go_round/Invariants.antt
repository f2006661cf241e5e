use Rattle.std.proofs.Common.{◌≡◌, ◌≤◌, length, map}
use Rattle.dm_cert.specs.Answers.{Setting}
use Rattle.dm_book.specs.Books.{Book}
use Rattle.dm_display.specs.Displays.{AreUp}
use Rattle.dm_table_desk.specs.Tables.{setting_of}
use Rattle.dm_tail.specs.Sources.{source_in}
use Rattle.dm_serve.specs.Inside.Stages.{HasGone, IsGoing}
use Rattle.dm_serve.proofs.going.go_round.Given as goal

abbrev pub invariant-loop-round : goal.invariant-loop-round
invariant-loop-round g l =
    record {
      going : IsGoing g.T.Growing.given (setting_of l.fn.watch.desk.plans l.fn.watch.desk.table) (length l.fn.watch.feeds.items) l.watch;
      gone : (s : Setting) (first : Book) (start : _) → setting_of l.fn.watch.desk.plans l.fn.watch.desk.table ≡ s
          → HasGone g.S.Store s first l.fn.watch start l.fn.journal
          → HasGone g.S.Store s first l.watch start l.journal;
      up :
          AreUp (λ b. (goal.Board-dyn g (b.vtable, b.value)).place b.value) (λ b. (goal.Board-dyn g (b.vtable, b.value)).times b.value) (λ b. (goal.Board-dyn g (b.vtable, b.value)).flags b.value)
          (λ b. (goal.Board-dyn g (b.vtable, b.value)).faults b.value) (λ b. (goal.Board-dyn g (b.vtable, b.value)).is_sound b.value)
          l.watch.desk.table l.display l.fn.boards.items l.boards.items;
      batch : l.watch.batch ≡ l.fn.watch.batch;
      sources : map (source_in g.T.Growing.source) l.watch.feeds.items ≡ map (source_in g.T.Growing.source) l.fn.watch.feeds.items;
      later : g.S.Store.faults l.fn.journal.store ≤ g.S.Store.faults l.journal.store;
    }
