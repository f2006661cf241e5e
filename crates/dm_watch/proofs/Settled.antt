-- What a crash leaves before a round is committed, and while it is.
use Rattle.std.proofs.Common.{◌≡◌, ℕ, ⊎_elim, List, length, map, Vec, Result, Ok, Err, sym, ap, subst, ◌∙◌}
use Rattle.std.specs.Prelude.{OnOk}
use Rattle.std.specs.declared.alloc.Global.{Global}
use Rattle.std.proofs.lemmas.Simd.{map-map}
use Rattle.std.proofs.lemmas.List.{length-map}
use Rattle.dm_cert.specs.Answers.{Setting}
use Rattle.dm_store.specs.declared.store.Store.{Ghosts as StoreFacts}
use Rattle.dm_store.specs.Calls.{AreFronts, Image, LeavesOnly}
use Rattle.dm_store.specs.Journals.{Keeps, IsBeforeOrAfter, IsAtRest}
use Rattle.dm_store.specs.declared.journal.Journal.{Journal}
use Rattle.dm_store.proofs.Moments.{started, weaker}
use Rattle.dm_tape.specs.Rounds.{round_text}
use Rattle.dm_book.specs.Books.{Book, IsTrueBook, IsFrontBook, AreRecorded, IsSafe, reply_text, with_round}
use Rattle.dm_tail.specs.declared.watched.Watched.{Watched}
use Rattle.dm_watch.specs.Settled.{old_items, new_items, all_items, AreSettled}
use Rattle.dm_watch.specs.Inside.Settling.{MaySettle, Settles, with_new}
use Rattle.dm_watch.specs.Inside.Showing.{old_text, all_text, IsKeptBook, IsShowing}
use Rattle.dm_watch.specs.declared.stops.RoundStop.{RoundStop}
use Rattle.dm_watch.proofs.Fronts.{text_fronts}
use Rattle.dm_watch.proofs.Recorded.{with_items, one_more_recorded}
use Rattle.dm_watch.proofs.Safe.{rest_keeps, safe_before, safe_after}

-- a journal to which nothing was done
pub untouched : {S : Type 0} (facts : StoreFacts S)
    (s : Setting) (contents : List (List ℕ)) (before after : Book) (journal : Journal S) → IsFrontBook before after → AreSettled facts s contents before.logs journal → IsTrueBook s before
    → ((image : Image) → facts.left_since journal.store (facts.moment journal.store) image → facts.may_leave journal.store image)
    → ((image : Image) → facts.may_leave journal.store image → image.shown ≡ facts.shown journal.store) → LeavesOnly facts.moment facts.left_since journal.store journal.store (IsSafe s before after)
untouched facts s contents before after journal grows settled is_true only shows =
    started facts.moment facts.left_since journal.store (IsSafe s before after)
    (λ image left.
    let here = only image left in
    safe_before s before after grows contents image settled.recorded is_true
    (rest_keeps contents (map reply_text before.logs) image (settled.rest.durable image here ∙ settled.rest.file) (shows image here ∙ settled.all_shown)))

module _ {S T : Type 0} (facts : StoreFacts S)
    (s : Setting) (contents : List (List ℕ)) (before after : Book) (feeds : List (Watched T)) (journal : Journal S)
    (may : MaySettle facts s contents before after feeds journal) where
  -- the round is in the blocks
  pub recorded_after : AreRecorded s (with_new contents feeds) after.logs
  recorded_after =
      let is : after.logs ≡ with_round before.logs (map new_items feeds) =
      may.all ∙ (sym (with_items feeds) ∙ ap (λ (l : List (List _)). with_round l (map new_items feeds)) (sym may.old)) in
      one_more_recorded s contents before.logs after.logs (map new_items feeds) may.settled.recorded is
      (length-map feeds new_items ∙ (sym (length-map feeds old_items) ∙ ap length (sym may.old))) may.kept

  -- nothing was done yet
  pub nothing_done : ((image : Image) → facts.left_since journal.store (facts.moment journal.store) image → facts.may_leave journal.store image)
      → ((image : Image) → facts.may_leave journal.store image → image.shown ≡ facts.shown journal.store) → LeavesOnly facts.moment facts.left_since journal.store journal.store (IsSafe s before after)
  nothing_done = untouched facts s contents before after journal may.grows may.settled may.true_before

  as_shown : (blocks : List (List ℕ)) (image : Image) → Keeps blocks (facts.shown journal.store) image → Keeps blocks (map reply_text before.logs) image
  as_shown blocks image k = record { stands = k.stands; crash_end = k.crash_end; same = k.same ∙ may.settled.all_shown }

  -- while the round is committed
  pub commit_leaves : (now : S) → LeavesOnly facts.moment facts.left_since journal.store now (IsBeforeOrAfter contents (round_text (map new_items feeds)) (facts.shown journal.store)) → LeavesOnly facts.moment facts.left_since journal.store now (IsSafe s before after)
  commit_leaves now leaves =
      weaker facts.moment facts.left_since journal.store now (IsBeforeOrAfter contents (round_text (map new_items feeds)) (facts.shown journal.store)) (IsSafe s before after) leaves
      (λ image either. ⊎_elim
      (λ k. safe_before s before after may.grows contents image may.settled.recorded may.true_before (as_shown contents image k))
      (λ k. safe_after s before after may.grows (with_new contents feeds) image (map reply_text before.logs) recorded_after may.true_after (as_shown (with_new contents feeds) image k) (text_fronts before.logs after.logs may.grows.logs))
      either)

  -- ---- after it

  pub kept_book : IsKeptBook s (with_new contents feeds) before after
  kept_book = record { recorded = recorded_after; is_true = may.true_after; grows = may.grows }

  old_texts : map old_text feeds ≡ map reply_text before.logs
  old_texts = sym (map-map reply_text old_items feeds) ∙ ap (map reply_text) (sym may.old)

  all_texts : map all_text feeds ≡ map reply_text after.logs
  all_texts = sym (map-map reply_text all_items feeds) ∙ ap (map reply_text) (sym may.all)

  pub start_showing : (mid : Journal S) → IsAtRest facts.tells facts.seen facts.may_leave (with_new contents feeds) mid → facts.shown mid.store ≡ facts.shown journal.store → LeavesOnly facts.moment facts.left_since journal.store mid.store (IsSafe s before after)
      → IsShowing facts s (with_new contents feeds) before after journal.store mid.store (map old_text feeds)
  start_showing mid rest same leaves = record {
    told = rest.told;
    file = rest.file;
    durable = rest.durable;
    is_shown = same ∙ (may.settled.all_shown ∙ sym old_texts);
    fronts = subst (λ (l : List (List ℕ)). AreFronts l (map reply_text after.logs)) (sym old_texts) (text_fronts before.logs after.logs may.grows.logs);
    leaves = leaves;
  }

  settled_now : (mid : Journal S) (now : S) → IsAtRest facts.tells facts.seen facts.may_leave (with_new contents feeds) mid → IsShowing facts s (with_new contents feeds) before after journal.store now (map all_text feeds)
      → AreSettled facts s (with_new contents feeds) after.logs (record { store = now; end = mid.end })
  settled_now mid now rest showing = record {
    rest = record { told = showing.told; file = showing.file; gate = rest.gate; durable = showing.durable };
    recorded = recorded_after;
    all_shown = showing.is_shown ∙ all_texts;
  }

  pub settled_so : (mid : Journal S) (now : S) (result : Result (Vec (Watched T) Global) RoundStop) → IsAtRest facts.tells facts.seen facts.may_leave (with_new contents feeds) mid → LeavesOnly facts.moment facts.left_since journal.store now (IsSafe s before after)
      → OnOk result (IsShowing facts s (with_new contents feeds) before after journal.store now (map all_text feeds))
      → Settles facts s contents before after feeds journal (record { store = now; end = mid.end }) result
  settled_so mid now (Ok done) rest leaves showing = record { leaves = leaves; done = settled_now mid now rest showing }
  settled_so mid now (Err stop) rest leaves showing = record { leaves = leaves; done = tt }
