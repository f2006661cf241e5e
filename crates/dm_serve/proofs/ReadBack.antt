-- What a store holds is read back: what was found there, and why it is refused.
use Rattle.std.proofs.Common.{◌≡◌, ℕ, ◌<◌, ◌≤◌, Bool, List, [], length, map, None, Some, Err, refl, sym, ap, subst, ◌∙◌, arith, slice_get}
use Rattle.std.specs.Prelude.{◌↔◌, IsTrue, slice_index_or}
use Rattle.std.specs.Option.{option_map}
use Rattle.std.proofs.lemmas.Option.{slice_get-map, slice_get_within}
use mathlib.Core.List.{IsPrefix}
use Rattle.dm_outside.proofs.Printing.{risen_since}
use Rattle.dm_rows.specs.declared.messages.Entry.{Entry}
use Rattle.dm_cert.specs.declared.replies.FeedLog.{FeedLog}
use Rattle.dm_cert.specs.declared.replies.LogItem.{LogItem}
use Rattle.dm_cert.specs.Answers.{Setting}
use Rattle.dm_store.specs.declared.store.Store.{Ghosts as StoreFacts}
use Rattle.dm_store.specs.Blocks.{Stands, refusal}
use Rattle.dm_store.specs.Calls.{HasCause}
use Rattle.dm_store.specs.Journals.{IsFound}
use Rattle.dm_store.specs.declared.faults.StoreError.{StoreError}
use Rattle.dm_store.specs.declared.faults.StoreError.TheVariants as error
use Rattle.dm_book.specs.Books.{Book, reply_text}
use Rattle.dm_restore.specs.Restoring.{IsRestored, RefusesBook}
use Rattle.dm_restore.specs.declared.stops.RestoreStop.{RestoreStop}
use Rattle.dm_restore.specs.declared.stops.RestoreStop.TheVariants as why
use Rattle.dm_serve.specs.Lives.{IsLeft}
use Rattle.dm_serve.specs.Inside.Replies.{ShowsMore, StopsComparing}
use Rattle.dm_serve.specs.Inside.Stages.{FindsBook, HoldsMore, IsWholeEnd, StopsReadingBack}
use Rattle.dm_serve.specs.Inside.Telling.{stop_of_read, stop_of_restore}
use Rattle.dm_serve.specs.declared.starting.StartStop.{StartStop}
use Rattle.dm_serve.specs.declared.starting.StartStop.TheVariants as stop

same_some : {X : Type 0} {x y : X} → Some x ≡ Some y → x ≡ y
same_some e = cc

abbrev items_in : FeedLog → List LogItem
items_in log = log.items

module _ {S : Type 0} (facts : StoreFacts S) (s : Setting) (feeds : ℕ) where
  pub stops_read : {U : Type 0} (old new : S) (e : StoreError) → HasCause {T = U} (facts.faults old) (facts.faults new) (Err e) → StopsReadingBack facts s feeds old new (stop_of_read e)
  stops_read old new error.OutOfMemory h = tt
  stops_read old new error.Failed h = h.failed refl
  stops_read old new error.Full h = absurd h.known
  stops_read old new error.NoJournal h = absurd h.known
  stops_read old new error.OtherVersion h = absurd h.known
  stops_read old new error.Broken h = absurd h.known
  stops_read old new error.Unread h = absurd h.known

  module _ (old : S) (file : List ℕ) (is : facts.tells old → file ≡ facts.seen old) where
    found_in : (contents : List (List ℕ)) → IsFound facts.tells facts.seen facts.may_leave contents old → Stands contents file
    found_in contents found = subst (Stands contents) (sym (is found.told)) found.stands

    refused_found : (reason : RestoreStop) → ((contents : List (List ℕ)) (stands : Stands contents file) → RefusesBook s feeds file contents stands.end reason)
        → (contents : List (List ℕ)) (found : IsFound facts.tells facts.seen facts.may_leave contents old) → RefusesBook s feeds (facts.seen old) contents found.stands.end reason
    refused_found reason refused contents found =
        subst (λ (f : List ℕ). (stands : Stands contents f) → RefusesBook s feeds f contents stands.end reason) (is found.told) (λ stands. refused contents stands) found.stands

    pub stops_refused : (new : S) (reason : RestoreStop) → ((contents : List (List ℕ)) (stands : Stands contents file) → RefusesBook s feeds file contents stands.end reason)
        → StopsReadingBack facts s feeds old new (stop_of_restore reason)
    stops_refused new why.OutOfMemory refused = tt
    stops_refused new why.Full refused = (λ e. cc, refused_found why.Full refused)
    stops_refused new why.Head refused = (λ e. cc, refused_found why.Head refused)
    stops_refused new (why.Form number) refused = (λ e. cc, refused_found (why.Form number) refused)
    stops_refused new (why.Bad line kind) refused = (λ e. cc, refused_found (why.Bad line kind) refused)

    pub whole_end : ((contents : List (List ℕ)) (stands : Stands contents file) → refusal contents stands.end ≡ None) → IsWholeEnd facts old
    whole_end whole contents found =
        subst (λ (f : List ℕ). (stands : Stands contents f) → refusal contents stands.end ≡ None) (is found.told) (λ stands. whole contents stands) found.stands

    pub finds_book : (book : Book) (is_new : Bool) → ((contents : List (List ℕ)) (other : Book) → Stands contents file → IsRestored s feeds contents other → book ≡ other)
        → ((contents : List (List ℕ)) → Stands contents file → IsTrue is_new ↔ (contents ≡ [])) → FindsBook facts s feeds book is_new old
    finds_book book is_new one new contents first t = (one contents first (found_in contents t.found) t.restored, new contents (found_in contents t.found))

    module _ (history : List Entry) (logs : List FeedLog) (many : length logs ≡ feeds)
        (one : (contents : List (List ℕ)) (other : Book) → Stands contents file → IsRestored s feeds contents other → record { history = history; logs = map (λ log. log.items) logs } ≡ other)
        (mid : S) (looks : facts.tells old → facts.tells mid × IsLeft facts old mid) where
      holds_more : (place : ℕ) → ShowsMore facts logs mid place → HoldsMore facts s feeds old place
      holds_more place m = record {
        within = let low = slice_get_within logs place m.log m.stands in omega (arith, low, many);
        cause = λ contents book items found restored at within front.
            let left = looks found.told in
            let same : facts.shown mid ≡ facts.shown old = left.1.replies in
            let book_is = one contents book (found_in contents found) restored in
            let here : slice_get book.logs place ≡ Some m.log.items =
            ap (λ (b : Book). slice_get b.logs place) (sym book_is) ∙ (slice_get-map items_in logs place ∙ ap (option_map items_in) m.stands) in
            let items_are : items ≡ m.log.items = same_some (sym at ∙ here) in
            m.more left.0 (subst (λ (l : List (List ℕ)). place < length l) (sym same) within)
            (subst (λ (l : List (List ℕ)). IsPrefix (slice_index_or l place []) (reply_text m.log.items)) (sym same)
            (subst (λ (l : List LogItem). IsPrefix (slice_index_or (facts.shown old) place []) (reply_text l)) items_are front));
      }

      pub stops_compared : (new : S) (r : StartStop) → facts.faults old ≤ facts.faults mid → StopsComparing facts logs mid new r → StopsReadingBack facts s feeds old new r
      stops_compared new stop.OutOfMemory low h = tt
      stops_compared new stop.Unread low h = risen_since (facts.faults old) (facts.faults mid) (facts.faults new) low h
      stops_compared new (stop.Refused reason) low h = absurd h
      stops_compared new (stop.Reply place) low h = holds_more place h
      stops_compared new (stop.Fault place) low h = absurd h
      stops_compared new (stop.Changed number line) low h = absurd h
      stops_compared new stop.Failed low h = absurd h
