-- What was found in a store is kept while a server begins, and where it was taken up the day has gone on since.
use Rattle.std.proofs.Common.{◌≡◌, ℕ, Bool, List, map, get_or, All, inl, Option, Result, Ok, refl, sym, ap, subst}
use Rattle.std.specs.Prelude.{OnOk}
use Rattle.std.proofs.lemmas.Option.{get_or_from_slice_get, slice_get-get_or, slice_get_within}
use Rattle.dm_rows.specs.declared.messages.Entry.{Entry}
use Rattle.dm_cert.specs.declared.replies.FeedLog.{FeedLog}
use Rattle.dm_cert.specs.declared.replies.LogItem.{LogItem}
use Rattle.dm_cert.specs.RunTexts.{IsSpelledItem, IsSpelledLog}
use Rattle.dm_rounds.proofs.Places.{mapped_at}
use Rattle.dm_desk.specs.Desks.{DeskValue}
use Rattle.dm_tail.specs.declared.watched.Watched.{Watched}
use Rattle.dm_cert.specs.Answers.{Setting}
use Rattle.dm_store.specs.declared.store.Store.{Ghosts as StoreFacts}
use Rattle.dm_store.specs.Calls.{LeavesOnly}
use Rattle.dm_store.specs.declared.journal.Journal.{Journal}
use Rattle.dm_store.proofs.Moments.{and_then}
use Rattle.dm_book.specs.Books.{Book, IsSafe}
use Rattle.dm_restore.specs.declared.heads.Head.{Head}
use Rattle.dm_watch.specs.Rounds.{IsWatching, book_in}
use Rattle.dm_watch.specs.Settled.{HaveSettled, all_items}
use Rattle.dm_watch.specs.declared.round.Watch.{Watch}
use Rattle.dm_serve.specs.Lives.{IsTakenUp, KeepsBooks}
use Rattle.dm_serve.specs.Inside.Replies.{Looks}
use Rattle.dm_serve.specs.Inside.Stages.{AllGoOn, HasGoneSince, IsReadBack, TakesUp}
use Rattle.dm_serve.proofs.Begun.{gone_since}
use Rattle.dm_serve.proofs.Standing.{same_logs}
use Rattle.dm_watch.proofs.Fronts.{book_of_itself}
use Rattle.dm_serve.proofs.Stays.{ShowsOn, shown_stays}

-- the logs of a watch have spellings
pub spelled_feeds : {T : Type 0} (given : T → Option (List ℕ)) (desk : DeskValue) (feeds : List (Watched T)) → IsWatching given desk feeds → All (λ (w : Watched T). All IsSpelledItem w.log.items) feeds
spelled_feeds given desk feeds watching = λ place d low. (watching.each place (get_or feeds place d) (slice_get-get_or feeds place d low)).fed.spelled

-- the book of logs is that of the feeds that go on with them
pub book_beside : {T : Type 0} (given : T → Option (List ℕ)) (history : List Entry) (logs : List (List LogItem)) (feeds : List (Watched T)) → AllGoOn given logs feeds
    → ◌≡◌ {A = Book} (record { history = history; logs = logs }) (record { history = history; logs = map all_items feeds })
book_beside given history logs feeds go_on = ap (λ (l : List (List LogItem)). record { history = history; logs = l }) (sym (same_logs given logs feeds go_on))

pub spelled_logs : (logs : List FeedLog) → All IsSpelledLog logs → All (All IsSpelledItem) (map (λ (log : FeedLog). log.items) logs)
spelled_logs logs spelled = λ place d low.
    let at = mapped_at (λ (log : FeedLog). log.items) logs place (get_or (map (λ (log : FeedLog). log.items) logs) place d) (slice_get-get_or (map (λ (log : FeedLog). log.items) logs) place d low) in
    let within = slice_get_within logs place at.0 at.1 in
    subst (All IsSpelledItem) (sym at.2) (subst IsSpelledLog (get_or_from_slice_get logs place at.0 at.0 at.1) (spelled place at.0 within))

module _ {S : Type 0} (facts : StoreFacts S) (s : Setting) (n : ℕ) where
  -- a store that was only looked at
  pub looked_keeps : ShowsOn facts → (sources : List (Option (List ℕ))) (old new : S) → Looks facts old new → KeepsBooks facts s n sources old new
  looked_keeps on sources old new looks = λ contents first t.
      let leaves = (looks.1 s n contents first t).0 in
      record {
        last = first;
        grows = book_of_itself first;
        leaves = leaves;
        shows = shown_stays facts on old new leaves.later (looks.0 t.found.told).0;
        answers = inl refl;
      }

  -- by another name of the book
  pub read_back_as : (book other : Book) (is_new : Bool) (start mid : S) → book ≡ other → IsReadBack facts s n book is_new start mid → IsReadBack facts s n other is_new start mid
  read_back_as book other is_new start mid same back = subst (λ (b : Book). IsReadBack facts s n b is_new start mid) same back

  module _ {T : Type 0} (E : Type 0) (head : Head) (is_new : Bool) (watch : Watch T) (start : S) (old new : Journal S) (penalty : s.penalty ≡ head.penalty) (plans : s.plans ≡ head.plans) (feeds : head.feeds ≡ n)
      (back : IsReadBack facts s n (book_in watch) is_new start old.store) where
    taken_at : (result : Result (Unit {0}) E) → TakesUp facts head is_new watch.feeds.items old new result → (contents : List (List ℕ)) (first : Book)
        → IsTakenUp facts s n start contents first → LeavesOnly facts.moment facts.left_since old.store new.store (IsSafe s first first) × facts.tells new.store × OnOk result (HaveSettled facts s first.logs new)
    taken_at result takes contents first t =
        let f = back.finds contents first t in
        let l = back.looks.1 s n contents first t in
        takes s contents first penalty plans f.1 (sym (ap (λ (b : Book). b.logs) f.0)) (subst (λ (m : ℕ). IsTakenUp facts s m old.store contents first) (sym feeds) l.1)

    -- whether it was taken up or not
    pub taken_keeps : ShowsOn facts → (result : Result (Unit {0}) E) → TakesUp facts head is_new watch.feeds.items old new result → (sources : List (Option (List ℕ)))
        → KeepsBooks facts s n sources start new.store
    taken_keeps on result takes sources = λ contents first t.
        let taken = taken_at result takes contents first t in
        let leaves = and_then facts.moment facts.left_since start old.store new.store (IsSafe s first first) (back.looks.1 s n contents first t).0 taken.0 in
        record {
          last = first;
          grows = book_of_itself first;
          leaves = leaves;
          shows = shown_stays facts on start new.store leaves.later taken.1;
          answers = inl refl;
        }

    -- where it was
    pub taken_since : TakesUp {E = E} facts head is_new watch.feeds.items old new (Ok tt) → HasGoneSince facts s n watch start new
    taken_since takes = λ contents first t.
        let h = taken_at (Ok tt) takes contents first t in
        gone_since facts s first start old.store watch new (back.looks.1 s n contents first t).0 h.0 (back.finds contents first t).0 h.2
