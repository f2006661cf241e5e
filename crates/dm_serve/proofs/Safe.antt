-- What a crash leaves at a start is safe: the book that was found.
use Rattle.std.proofs.Common.{◌≡◌, ℕ, List, map, refl, sym, subst, ◌∙◌, inr}
use Rattle.dm_cert.specs.Answers.{Setting}
use Rattle.dm_store.specs.declared.store.Store.{Ghosts as StoreFacts}
use Rattle.dm_store.specs.Blocks.{Stands, at_rest}
use Rattle.dm_store.specs.Calls.{AreFronts, AddsNone, Goes, Image, LeavesOnly}
use Rattle.dm_store.specs.Journals.{HasCrashEnd}
use Rattle.dm_store.proofs.Moments.{goes_on, started}
use Rattle.dm_book.specs.Books.{Book, IsBookIn, IsSafe, IsTrueBook, reply_text}
use Rattle.dm_watch.proofs.Fronts.{book_of_itself}
use Rattle.dm_watch.proofs.Safe.{rest_keeps}
use Rattle.dm_serve.specs.Lives.{IsTakenUp}
use Rattle.dm_serve.specs.Inside.Replies.{IsKeptIn}

module _ (s : Setting) (first : Book) where
  pub safe_as : (contents : List (List ℕ)) (image : Image) → Stands contents image.journal → HasCrashEnd contents image.journal → IsBookIn s contents first → IsTrueBook s first
      → AreFronts image.shown (map reply_text first.logs) → IsSafe s first first image
  safe_as contents image stands crash_end is_in is_true shown = record {
    contents = contents;
    stands = stands;
    crash_end = crash_end;
    book = first;
    is_in = is_in;
    is_true = is_true;
    above = book_of_itself first;
    below = book_of_itself first;
    shown = shown;
  }

  pub safe_at_rest : (contents : List (List ℕ)) (image : Image) → IsKeptIn s contents first → image.journal ≡ at_rest contents → AreFronts image.shown (map reply_text first.logs) → IsSafe s first first image
  safe_at_rest contents image kept is fronts =
      let k = rest_keeps contents image.shown image is refl in
      safe_as contents image k.stands k.crash_end (inr kept.recorded) kept.is_true fronts

module _ {S : Type 0} (facts : StoreFacts S) (s : Setting) where
  -- ---- a store that was found

  pub safe_found : (feeds : ℕ) (store : S) (contents : List (List ℕ)) (first : Book) → IsTakenUp facts s feeds store contents first
      → ((image : Image) → facts.may_leave store image → image.shown ≡ facts.shown store) → (image : Image) → facts.may_leave store image → IsSafe s first first image
  safe_found feeds store contents first t shows image left =
      let here : image.journal ≡ facts.seen store = t.found.durable image left in
      safe_as s first contents image (subst (Stands contents) (sym here) t.found.stands) (subst (HasCrashEnd contents) (sym here) t.crash_end) t.restored.is_in t.restored.is_true
      (subst (λ (l : List (List ℕ)). AreFronts l (map reply_text first.logs)) (sym (shows image left)) t.shown_fronts)

  pub found_leaves : (feeds : ℕ) (store : S) (contents : List (List ℕ)) (first : Book) → IsTakenUp facts s feeds store contents first
      → ((image : Image) → facts.may_leave store image → image.shown ≡ facts.shown store) → ((image : Image) → facts.left_since store (facts.moment store) image → facts.may_leave store image)
      → LeavesOnly facts.moment facts.left_since store store (IsSafe s first first)
  found_leaves feeds store contents first t shows only = started facts.moment facts.left_since store (IsSafe s first first) (λ image left. safe_found feeds store contents first t shows image (only image left))

  -- ---- a call that changes nothing

  module _ (old new : S) (none : AddsNone (facts.may_leave old) (facts.may_leave new)) (goes : Goes facts.shown facts.moment facts.left_since facts.may_leave old new) where
    pub looked : (start : S) (P : Image → Type 0) → LeavesOnly facts.moment facts.left_since start old P → ((image : Image) → facts.may_leave old image → P image) → LeavesOnly facts.moment facts.left_since start new P
    looked start P leaves here = goes_on facts.moment facts.left_since start old new P (facts.may_leave new) leaves goes.time (λ image left. here image (none image left))

    module _ (told : facts.tells new) (same : facts.seen new ≡ facts.seen old) where
      pub found_still : (feeds : ℕ) (contents : List (List ℕ)) (first : Book) → IsTakenUp facts s feeds old contents first → IsTakenUp facts s feeds new contents first
      found_still feeds contents first t = record {
        found = record {
          told = told;
          stands = subst (Stands contents) (sym same) t.found.stands;
          durable = λ image left. t.found.durable image (none image left) ∙ sym same;
        };
        crash_end = subst (HasCrashEnd contents) (sym same) t.crash_end;
        restored = t.restored;
        shown_fronts = subst (λ (l : List (List ℕ)). AreFronts l (map reply_text first.logs)) (sym goes.same) t.shown_fronts;
      }
