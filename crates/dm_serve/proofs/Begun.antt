-- A journal that is taken up: read, judged, repaired, and begun with its head where it is new.
use Rattle.std.proofs.Common.{◌≡◌, ◌≢◌, ◌≤◌, ℕ, Bool, true, false, true≢false, List, [], ◌∷◌, ◌++◌, length, map, None, Some, Result, Ok, Err, refl, sym, ap, subst, ◌∙◌, inl, inr, ⊎_elim}
use Rattle.std.specs.Prelude.{◌↔◌, All, IfErr, OnOk, IsTrue}
use Rattle.std.proofs.Math.ListN.{replicate}
use Rattle.std.proofs.lemmas.List.Elements.{All-head, All-nil, All-tail}
use Rattle.dm_outside.specs.Faults.{HasRisen}
use Rattle.dm_outside.proofs.Printing.{risen_since}
use Rattle.dm_cert.specs.declared.replies.LogItem.{LogItem}
use Rattle.dm_cert.specs.Answers.{Setting}
use Rattle.dm_store.specs.declared.store.Store.{Ghosts as StoreFacts}
use Rattle.dm_store.specs.Blocks.{is_crash_end, is_new, refusal}
use Rattle.dm_store.specs.Calls.{AreFronts, Image, LeavesOnly}
use Rattle.dm_store.specs.Journals.{IsAtRest, IsBeforeOrAfter, IsFound, IsJudged, IsOfCommit, Keeps, StillKeeps}
use Rattle.dm_store.specs.declared.faults.StoreError.{StoreError}
use Rattle.dm_store.specs.declared.faults.StoreError.TheVariants as error
use Rattle.dm_store.specs.declared.journal.Journal.{Journal}
use Rattle.dm_store.proofs.Moments.{and_then, weaker}
use Rattle.dm_book.specs.Books.{AreRecorded, Book, IsBookIn, IsFrontBook, IsSafe, head_text, reply_text}
use Rattle.dm_restore.specs.declared.heads.Head.{Head}
use Rattle.dm_restore.specs.declared.stops.RestoreStop.TheVariants as why
use Rattle.dm_watch.specs.Rounds.{book_in}
use Rattle.dm_watch.specs.Settled.{HaveSettled}
use Rattle.dm_watch.specs.declared.round.Watch.{Watch}
use Rattle.dm_watch.proofs.Fronts.{book_of_itself}
use Rattle.dm_serve.specs.Lives.{IsLeft, IsTakenUp}
use Rattle.dm_serve.specs.Inside.Replies.{IsStarting, StopsRenewing}
use Rattle.dm_serve.specs.Inside.Stages.{HasBegun, HasGone, StopsPutting}
use Rattle.dm_serve.specs.Inside.Telling.{stop_of_commit, stop_of_recover}
use Rattle.dm_serve.specs.declared.starting.StartStop.{StartStop}
use Rattle.dm_serve.specs.declared.starting.StartStop.TheVariants as stop
use Rattle.dm_serve.proofs.Safe.{safe_as}

-- ---- a head with no rounds

all_empty : (logs : List (List LogItem)) → All (λ items. items ≡ []) logs → logs ≡ replicate (length logs) []
all_empty [] none = refl
all_empty (items ∷ logs) none =
    ap (λ (l : List LogItem). l ∷ logs) (All-head (λ items. items ≡ []) items logs none)
    ∙ ap (λ (ls : List (List LogItem)). [] ∷ ls) (all_empty logs (All-tail (λ items. items ≡ []) items logs none))

-- the logs of a book in no blocks
none_empty : (s : Setting) (contents : List (List ℕ)) (book : Book) → contents ≡ [] → IsBookIn s contents book → All (λ items. items ≡ []) book.logs
none_empty s contents book none (inl is) = is.empty
none_empty s contents book none (inr is) = let e = sym is.blocks ∙ none in absurd (cc (e))

-- the logs of a book in some blocks
some_recorded : (s : Setting) (contents : List (List ℕ)) (book : Book) → contents ≢ [] → IsBookIn s contents book → AreRecorded s contents book.logs
some_recorded s contents book some (inl is) = absurd (some is.none)
some_recorded s contents book some (inr is) = is

head_recorded : (s : Setting) (feeds : ℕ) (contents : List (List ℕ)) (content : List ℕ) (book : Book) → contents ≡ [] → content ≡ head_text s.penalty s.plans feeds → length book.logs ≡ feeds
    → IsBookIn s contents book → AreRecorded s (contents ++ content ∷ []) book.logs
head_recorded s feeds contents content book none is many is_in = record {
  rounds = [];
  blocks = ap (λ (l : List (List ℕ)). l ++ content ∷ []) none ∙ (ap (λ (c : List ℕ). c ∷ []) is ∙ ap (λ (n : ℕ). head_text s.penalty s.plans n ∷ []) (sym many));
  whole = All-nil _;
  kept = All-nil _;
  logs_are = all_empty book.logs (none_empty s contents book none is_in);
}

-- ---- whether a journal is new

pub no_blocks : (new : Bool) (contents : List (List ℕ)) → new ≡ true → IsTrue new ↔ (contents ≡ []) → contents ≡ []
no_blocks new contents is told = told.0 is

pub some_block : (new : Bool) (contents : List (List ℕ)) → new ≡ false → IsTrue new ↔ (contents ≡ []) → contents ≢ []
some_block new contents is told none = true≢false (sym (told.1 none) ∙ is)

-- the content of the head that goes with a setting
pub head_is : (s : Setting) (head : Head) (content : List ℕ) → s.penalty ≡ head.penalty → s.plans ≡ head.plans → content ≡ head_text head.penalty head.plans head.feeds → content ≡ head_text s.penalty s.plans head.feeds
head_is s head content penalty plans is = is ∙ (ap (λ (n : ℕ). head_text n head.plans head.feeds) (sym penalty) ∙ ap (λ (n : ℕ). head_text s.penalty n head.feeds) (sym plans))

-- ---- errors

no_form : (n : ℕ) → why.Form n ≡ why.OutOfMemory → ⊥
no_form n e = cc

none_some : {A : Type 0} {x : A} → None ≡ Some x → ⊥
none_some e = cc

module _ {S : Type 0} (facts : StoreFacts S) where
  -- what is told of a journal that nothing is refused of
  refused_so : (old : S) (e : StoreError) → ((contents : List (List ℕ)) (found : IsFound facts.tells facts.seen facts.may_leave contents old) → refusal contents found.stands.end ≡ Some e)
      → (contents : List (List ℕ)) (found : IsFound facts.tells facts.seen facts.may_leave contents old) → refusal contents found.stands.end ≡ None → ⊥
  refused_so old e is contents found none = none_some (sym none ∙ is contents found)

  pub recover_stops : (old new : S) (e : StoreError) → (e ≡ error.Failed → HasRisen (facts.faults old) (facts.faults new)) → (e ≡ error.Unread → HasRisen (facts.faults old) (facts.faults new))
      → (e ≡ error.Unread → (contents : List (List ℕ)) → IsFound facts.tells facts.seen facts.may_leave contents old → IsLeft facts old new)
      → ((contents : List (List ℕ)) (found : IsFound facts.tells facts.seen facts.may_leave contents old) → IsJudged contents found.stands.end (Err e)) → StopsPutting facts old new (stop_of_recover e)
  recover_stops old new error.OutOfMemory failed unread left judged = tt
  recover_stops old new error.Failed failed unread left judged = failed refl
  recover_stops old new error.Unread failed unread left judged = (unread refl, left refl)
  recover_stops old new error.Full failed unread left judged = (no_form 1, refused_so old error.Full judged)
  recover_stops old new error.NoJournal failed unread left judged = (no_form 1, refused_so old error.NoJournal judged)
  recover_stops old new error.OtherVersion failed unread left judged = (no_form 1, refused_so old error.OtherVersion judged)
  recover_stops old new error.Broken failed unread left judged = (no_form 1, refused_so old error.Broken judged)

  pub commit_stops : (old new : S) (e : StoreError) → IsOfCommit e → (e ≡ error.Failed → HasRisen (facts.faults old) (facts.faults new)) → StopsPutting facts old new (stop_of_commit e)
  commit_stops old new error.OutOfMemory known failed = tt
  commit_stops old new error.Failed known failed = failed refl
  commit_stops old new error.Full known failed = tt
  commit_stops old new error.NoJournal known failed = absurd known
  commit_stops old new error.OtherVersion known failed = absurd known
  commit_stops old new error.Broken known failed = absurd known
  commit_stops old new error.Unread known failed = absurd known

  -- a commit's stop, after a journal was recovered
  pub commit_stops_later : (old mid new : S) (e : StoreError) → facts.faults old ≤ facts.faults mid → IsOfCommit e → (e ≡ error.Failed → HasRisen (facts.faults mid) (facts.faults new)) → StopsPutting facts old new (stop_of_commit e)
  commit_stops_later old mid new e low known failed = commit_stops old new e known (λ is. risen_since (facts.faults old) (facts.faults mid) (facts.faults new) low (failed is))

  -- a stop of reply files, after the journal was put right
  pub renew_stops : {U : Type 0} (old mid new : S) (result : Result U StartStop) → facts.faults old ≤ facts.faults mid → IfErr result (StopsRenewing facts mid new) → IfErr result (StopsPutting facts old new)
  renew_stops old mid new (Ok u) low h = tt
  renew_stops old mid new (Err stop.OutOfMemory) low h = tt
  renew_stops old mid new (Err stop.Unread) low h = absurd h
  renew_stops old mid new (Err (stop.Refused reason)) low h = absurd h
  renew_stops old mid new (Err (stop.Reply place)) low h = absurd h
  renew_stops old mid new (Err (stop.Fault place)) low h = absurd h
  renew_stops old mid new (Err (stop.Changed number line)) low h = absurd h
  renew_stops old mid new (Err stop.Failed) low h = risen_since (facts.faults old) (facts.faults mid) (facts.faults new) low h

  -- ---- recovered

  module _ (s : Setting) (feeds : ℕ) (old : S) (contents : List (List ℕ)) (first : Book) (t : IsTakenUp facts s feeds old contents first) where
    ended : is_crash_end (is_new contents) t.found.stands.end ≡ true
    ended = t.crash_end t.found.stands.end t.found.stands.split

    still_safe : (image : Image) → StillKeeps contents t.found.stands.end (facts.shown old) image → IsSafe s first first image
    still_safe image k =
        safe_as s first contents image k.stands (k.crash_end ended) t.restored.is_in t.restored.is_true
        (subst (λ (l : List (List ℕ)). AreFronts l (map reply_text first.logs)) (sym k.same) t.shown_fronts)

    pub recover_leaves : (new : S) → LeavesOnly facts.moment facts.left_since old new (StillKeeps contents t.found.stands.end (facts.shown old)) → LeavesOnly facts.moment facts.left_since old new (IsSafe s first first)
    recover_leaves new leaves = weaker facts.moment facts.left_since old new (StillKeeps contents t.found.stands.end (facts.shown old)) (IsSafe s first first) leaves still_safe

    -- where some block stands
    pub begun_old : (new : Journal S) → contents ≢ [] → IsAtRest facts.tells facts.seen facts.may_leave contents new → facts.shown new.store ≡ facts.shown old → LeavesOnly facts.moment facts.left_since old new.store (IsSafe s first first)
        → HasBegun facts s first first old new
    begun_old new some rest same leaves = record {
      is = refl;
      contents = contents;
      kept = record { recorded = some_recorded s contents first some t.restored.is_in; is_true = t.restored.is_true };
      gate = rest.gate;
      starting = record {
        told = rest.told;
        file = rest.file;
        durable = rest.durable;
        fronts = subst (λ (l : List (List ℕ)). AreFronts l (map reply_text first.logs)) (sym same) t.shown_fronts;
        leaves = leaves;
      };
    }

    -- ---- the head of a new one

    module _ (content : List ℕ) (none : contents ≡ []) (is : content ≡ head_text s.penalty s.plans feeds) where
      recorded : AreRecorded s (contents ++ content ∷ []) first.logs
      recorded = head_recorded s feeds contents content first none is t.restored.as_many t.restored.is_in

      head_safe : (mid : S) → facts.shown mid ≡ facts.shown old → (image : Image) → IsBeforeOrAfter contents content (facts.shown mid) image → IsSafe s first first image
      head_safe mid same image either =
          let fronts : (k : image.shown ≡ facts.shown mid) → AreFronts image.shown (map reply_text first.logs) =
          λ k. subst (λ (l : List (List ℕ)). AreFronts l (map reply_text first.logs)) (sym (k ∙ same)) t.shown_fronts in
          ⊎_elim
          (λ (k : Keeps contents (facts.shown mid) image). safe_as s first contents image k.stands k.crash_end t.restored.is_in t.restored.is_true (fronts k.same))
          (λ (k : Keeps (contents ++ content ∷ []) (facts.shown mid) image). safe_as s first (contents ++ content ∷ []) image k.stands k.crash_end (inr recorded) t.restored.is_true (fronts k.same))
          either

      pub head_leaves : (mid new : S) → facts.shown mid ≡ facts.shown old → LeavesOnly facts.moment facts.left_since old mid (IsSafe s first first) → LeavesOnly facts.moment facts.left_since mid new (IsBeforeOrAfter contents content (facts.shown mid))
          → LeavesOnly facts.moment facts.left_since old new (IsSafe s first first)
      head_leaves mid new same so_far leaves =
          and_then facts.moment facts.left_since old mid new (IsSafe s first first) so_far
          (weaker facts.moment facts.left_since mid new (IsBeforeOrAfter contents content (facts.shown mid)) (IsSafe s first first) leaves (head_safe mid same))

      pub begun_new : (new : Journal S) → IsAtRest facts.tells facts.seen facts.may_leave (contents ++ content ∷ []) new → facts.shown new.store ≡ facts.shown old → LeavesOnly facts.moment facts.left_since old new.store (IsSafe s first first)
          → HasBegun facts s first first old new
      begun_new new rest same leaves = record {
        is = refl;
        contents = contents ++ content ∷ [];
        kept = record { recorded = recorded; is_true = t.restored.is_true };
        gate = rest.gate;
        starting = record {
          told = rest.told;
          file = rest.file;
          durable = rest.durable;
          fronts = subst (λ (l : List (List ℕ)). AreFronts l (map reply_text first.logs)) (sym same) t.shown_fronts;
          leaves = leaves;
        };
      }

  -- ---- settled

  -- where the reply files show it whole besides
  pub settled_now : (s : Setting) (first : Book) (start new : S) (mid : Journal S) (h : HasBegun facts s first first start mid)
      → IsStarting facts s h.contents first start new → facts.shown new ≡ map reply_text first.logs → HaveSettled facts s first.logs (record { store = new; end = mid.end })
  settled_now s first start new mid h starting is = record {
    contents = h.contents;
    settled = record {
      rest = record { told = starting.told; file = starting.file; gate = h.gate; durable = starting.durable };
      recorded = h.kept.recorded;
      all_shown = is;
    };
  }

  -- where they do at Ok
  pub settled_at_ok : {E : Type 0} (s : Setting) (first : Book) (start new : S) (mid : Journal S) (h : HasBegun facts s first first start mid) (result : Result (Unit {0}) E)
      → OnOk result (IsStarting facts s h.contents first start new × (facts.shown new ≡ map reply_text first.logs)) → OnOk result (HaveSettled facts s first.logs (record { store = new; end = mid.end }))
  settled_at_ok s first start new mid h (Ok u) is = settled_now s first start new mid h is.0 is.1
  settled_at_ok s first start new mid h (Err e) is = tt

  -- ---- gone since

  -- a day that begins with the book that was found
  pub gone_since : {T : Type 0} (s : Setting) (first : Book) (start mid : S) (watch : Watch T) (now : Journal S) → LeavesOnly facts.moment facts.left_since start mid (IsSafe s first first) → LeavesOnly facts.moment facts.left_since mid now.store (IsSafe s first first)
      → book_in watch ≡ first → HaveSettled facts s first.logs now → HasGone facts s first watch start now
  gone_since s first start mid watch now looked taken is settled = record {
    leaves =
        subst (λ (b : Book). LeavesOnly facts.moment facts.left_since start now.store (IsSafe s first b)) (sym is)
        (and_then facts.moment facts.left_since start mid now.store (IsSafe s first first) looked taken);
    grows = subst (IsFrontBook first) (sym is) (book_of_itself first);
    settled = subst (λ (b : Book). HaveSettled facts s b.logs now) (sym is) settled;
  }
