-- A start over what was not synced yet.
use Rattle.std.proofs.Common.{◌≡◌, ℕ, List, map, Result, Ok, Err, sym, subst, ◌∙◌}
use Rattle.std.specs.Prelude.{OnOk}
use Rattle.dm_cert.specs.Answers.{Setting}
use Rattle.dm_store.specs.declared.store.Store.{Ghosts as StoreFacts}
use Rattle.dm_store.specs.Blocks.{Stands}
use Rattle.dm_store.specs.Calls.{AddsNone, AreFronts, Goes, Image, LeavesJournal, LeavesOnly}
use Rattle.dm_store.specs.Journals.{HasCrashEnd}
use Rattle.dm_store.specs.declared.faults.StoreError.{StoreError}
use Rattle.dm_store.proofs.Moments.{and_then, goes_on, started, weaker}
use Rattle.dm_book.specs.Books.{Book, IsSafe, reply_text}
use Rattle.dm_serve.specs.Lives.{IsTakenUp}
use Rattle.dm_serve.proofs.Gone.{safe_more, safe_on}
use Rattle.dm_lives.specs.Starts.{IsReadSafe, StartsSafely}

module _ {S : Type 0} (facts : StoreFacts S)
    (s : Setting) (feeds : ℕ) (contents : List (List ℕ)) (low book : Book) (old new : S) (read : IsReadSafe facts s feeds old contents low book)
    (goes : Goes facts.shown facts.moment facts.left_since facts.may_leave old new) where
  pub taken_now : facts.tells new → facts.seen new ≡ facts.seen old → (result : Result (Unit {0}) StoreError) → OnOk result (LeavesJournal (facts.seen old) (facts.may_leave new))
      → OnOk result (IsTakenUp facts s feeds new contents book)
  taken_now told same (Ok u) durable = record {
    found = record { told = told; stands = subst (Stands contents) (sym same) read.stands; durable = λ image left. durable image left ∙ sym same };
    crash_end = subst (HasCrashEnd contents) (sym same) read.crash_end;
    restored = read.restored;
    shown_fronts = subst (λ (l : List (List ℕ)). AreFronts l (map reply_text book.logs)) (sym goes.same) read.shown_fronts;
  }
  taken_now told same (Err e) durable = tt

  pub syncs_safely : ((image : Image) → facts.left_since old (facts.moment old) image → facts.may_leave old image) → AddsNone (facts.may_leave old) (facts.may_leave new)
      → LeavesOnly facts.moment facts.left_since old new (IsSafe s low book)
  syncs_safely only none =
      goes_on facts.moment facts.left_since old old new (IsSafe s low book) (facts.may_leave new)
      (started facts.moment facts.left_since old (IsSafe s low book) (λ image left. read.safe image (only image left))) goes.time
      (λ image left. read.safe image (none image left))

pub starts_safely : {S : Type 0} (facts : StoreFacts S) → StartsSafely facts
starts_safely facts = λ s low book sources old synced new grows syncs life.
    and_then facts.moment facts.left_since old synced new (IsSafe s low life.last)
    (weaker facts.moment facts.left_since old synced (IsSafe s low book) (IsSafe s low life.last) syncs (safe_on s low book life.last life.grows))
    (weaker facts.moment facts.left_since synced new (IsSafe s book life.last) (IsSafe s low life.last) life.leaves (safe_more s low book life.last grows))
