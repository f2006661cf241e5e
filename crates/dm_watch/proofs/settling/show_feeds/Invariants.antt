use Rattle.std.proofs.Common.{◌≡◌, ◌≤◌, ◌++◌, List, ℕ, map, length}
use Rattle.dm_cert.specs.Answers.{Setting}
use Rattle.dm_book.specs.Books.{Book}
use Rattle.dm_tail.specs.Sources.{source_in}
use Rattle.dm_watch.specs.Settled.{all_items, log_parts, shown_parts}
use Rattle.dm_watch.specs.Inside.Showing.{IsKeptBook, IsShowing, old_text, all_text}
use Rattle.dm_watch.proofs.settling.show_feeds.Given as goal

abbrev pub invariant-loop-watched : goal.invariant-loop-watched
invariant-loop-watched g l =
    record {
      whole : l.yielded ++ l.watched-iterator.rest.items ≡ l.fn.feeds.items;
      many : length l.shown.items ≡ length l.yielded;
      parts : map (log_parts g.T.Growing.given) l.shown.items ≡ map (shown_parts g.T.Growing.given) l.yielded;
      sources : map (source_in g.T.Growing.source) l.shown.items ≡ map (source_in g.T.Growing.source) l.yielded;
      told : g.S.Store.tells l.fn.store → g.S.Store.tells l.store;
      later : g.S.Store.faults l.fn.store ≤ g.S.Store.faults l.store;
      so_far :
          (s : Setting) (contents : List (List ℕ)) (before after : Book) (start : _) → IsKeptBook s contents before after → after.logs ≡ map all_items l.fn.feeds.items
          → IsShowing g.S.Store s contents before after start l.fn.store (map old_text l.fn.feeds.items)
          → IsShowing g.S.Store s contents before after start l.store
          (map all_text l.yielded ++ map old_text l.watched-iterator.rest.items);
    }
