-- What a crash leaves of a life is taken up by the next.
use Rattle.std.proofs.Common.{◌≡◌, ◌≤◌, ℕ, length, map, get_or, sym, subst}
use Rattle.dm_cert.specs.Answers.{Setting}
use Rattle.dm_store.specs.declared.store.Store.{Ghosts as StoreFacts}
use Rattle.dm_store.specs.Blocks.{Stands}
use Rattle.dm_store.specs.Calls.{AreFronts, Image}
use Rattle.dm_store.specs.Journals.{HasCrashEnd}
use Rattle.dm_book.specs.Books.{Book, IsSafe, reply_text}
use Rattle.dm_book.proofs.Growing.{as_many}
use Rattle.dm_store.specs.Fronts.{fronts_of_fronts}
use Rattle.dm_serve.specs.Lives.{IsTakenUp}
use Rattle.dm_lives.specs.Laws.{Holds, IsCrashedLife, IsTakenUpAgain}

-- what a crash left is taken up with the book there
pub taken_from : {S : Type 0} (facts : StoreFacts S) (s : Setting) (first last : Book) (image : Image) (store : S)
    (safe : IsSafe s first last image) → Holds facts image store → IsTakenUp facts s (length first.logs) store safe.contents safe.book
taken_from facts s first last image store safe holds = record {
  found = record { told = holds.told; stands = subst (Stands safe.contents) (sym holds.journal) safe.stands; durable = holds.durable };
  crash_end = subst (HasCrashEnd safe.contents) (sym holds.journal) safe.crash_end;
  restored = record { is_in = safe.is_in; is_true = safe.is_true; as_many = sym (as_many first.logs safe.book.logs safe.above.logs) };
  shown_fronts = fronts_of_fronts (facts.shown store) image.shown (map reply_text safe.book.logs) holds.replies safe.shown;
}

pub taken_up_again : {S : Type 0} (facts : StoreFacts S) → IsTakenUpAgain facts
taken_up_again facts = λ s first last image store safe holds. record {
  contents = safe.contents;
  book = safe.book;
  taken = taken_from facts s first last image store safe holds;
  grows = safe.above;
}

-- what a crash leaves of a life
pub crashed_life : {S : Type 0} (facts : StoreFacts S)
    → ((store : S) (image : Image) → facts.tells store → facts.may_leave store image → image.shown ≡ facts.shown store)
    → ((store : S) (t : ℕ) (image : Image) → facts.tells store → t ≤ facts.moment store → facts.may_leave store image → facts.left_since store t image)
    → IsCrashedLife facts
crashed_life facts shows_now counts_now = λ s first sources old new life told crashed earlier left found feeds is_in is_true.
    let now = shows_now new crashed.image told left in
    let safe = life.leaves.each crashed.image (counts_now new (facts.moment old) crashed.image told life.leaves.later left) in
    record {
      last = life.last;
      all_safe = λ k d low. life.leaves.each (get_or crashed.earlier k d) (earlier k d low);
      still = λ k d low. subst (AreFronts (get_or crashed.earlier k d).shown) (sym now) (life.shows.each (get_or crashed.earlier k d) (earlier k d low));
      safe = safe;
      feeds = feeds;
      is_in = is_in safe.contents safe.stands;
      is_true = is_true;
    }
