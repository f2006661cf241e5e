-- What a crash leaves while a block is committed, and while a journal is recovered, one call after the other.
use Rattle.std.proofs.Common.{◌≡◌, ℕ, ◌+◌, ◌<◌, ◌^◌, List, ◌++◌, length, Vec, Result, Ok, Err, None, Some, refl, sym, ◌∙◌, subst}
use Rattle.std.specs.List.{flat_map}
use Rattle.std.specs.Result.{IsErrAnd}
use Rattle.std.specs.declared.alloc.Global.{Global}
use Rattle.dm_store.specs.Blocks.{block, at_rest, IsEnd, refusal, IsOfJournal}
use Rattle.dm_store.specs.Calls.{Image, Torn, Cut, LeavesJournal, LeavesOnly, AddsNone, Goes, IsOfStore}
use Rattle.dm_store.specs.Journals.{IsFound, IsAtRest, IsBeforeOrAfter, StillKeeps, IsRefusal, IsJudged}
use Rattle.dm_store.specs.Inside.Stages.{IsSettled, IsStage, Stepped, ReadsBlocks, IsRead}
use Rattle.dm_store.specs.declared.faults.StoreError.{StoreError}
use Rattle.dm_store.specs.declared.faults.StoreError.TheVariants.{OutOfMemory, Failed, Unread, Full, NoJournal, OtherVersion, Broken}
use Rattle.dm_store.specs.declared.journal.Journal.{Journal}
use Rattle.dm_store.proofs.Moments.{started, goes_on, and_then, weaker}
use Rattle.dm_store.proofs.Crash.{with_block, torn_behind, torn_gate, unchanged, torn_cut, torn_end}

module _ {S : Type 0} (tells : S → Type 0) (seen : S → List ℕ) (shown : S → List (List ℕ)) (may_leave : S → Image → Type 0) (moment : S → ℕ)
    (left_since : S → ℕ → Image → Type 0) where
  abbrev Settled : List ℕ → S → Type 0
  Settled = IsSettled tells seen may_leave

  abbrev Leaves : S → S → (Image → Type 0) → Type 0
  Leaves = LeavesOnly moment left_since

  abbrev Stage : (Image → Type 0) → List ℕ → S → S → Result Unit StoreError → Type 0
  Stage = IsStage tells seen shown may_leave moment left_since

  pub settled_as : (file next : List ℕ) (store : S) → file ≡ next → Settled file store → Settled next store
  settled_as file next store is s = record { told = s.told; reads = s.reads ∙ is; durable = λ image left. s.durable image left ∙ is }

  pub from_rest : (contents : List (List ℕ)) (journal : Journal S) → IsAtRest tells seen may_leave contents journal → Settled (at_rest contents) journal.store
  from_rest contents journal r = record { told = r.told; reads = r.file; durable = λ image left. r.durable image left ∙ r.file }

  pub to_rest : (contents : List (List ℕ)) (next : List ℕ) (journal : Journal S) → next ≡ at_rest contents → journal.end ≡ length (flat_map block contents) →
      Settled next journal.store → IsAtRest tells seen may_leave contents journal
  to_rest contents next journal is there s = record {
    told = s.told;
    file = s.reads ∙ is;
    gate = there;
    durable = λ image left. s.durable image left ∙ sym s.reads;
  }

  -- ---- commit

  module _ (contents : List (List ℕ)) (content : List ℕ) (end : ℕ) (is_there : end ≡ length (flat_map block contents)) (small : length content < 2 ^ 64) where
    pub behind_leaves : (old mid : S) (n : ℕ) (next : List ℕ) (result : Result Unit StoreError) → Stage (Stepped (Torn (end + 1) n) (at_rest contents) (shown old)) next old mid result →
        Leaves old mid (IsBeforeOrAfter contents content (shown old))
    behind_leaves old mid n next result s =
        weaker moment left_since old mid (Stepped (Torn (end + 1) n) (at_rest contents) (shown old)) (IsBeforeOrAfter contents content (shown old)) s.leaves
        (λ image on. torn_behind contents content end is_there small n (shown old) image on)

    pub gate_leaves : (old mid new : S) (next : List ℕ) (result : Result Unit StoreError) → Leaves old mid (IsBeforeOrAfter contents content (shown old)) → shown mid ≡ shown old →
        Stage (Stepped (Torn end 1) (with_block contents content end is_there small) (shown mid)) next mid new result → Leaves old new (IsBeforeOrAfter contents content (shown old))
    gate_leaves old mid new next result first same s =
        and_then moment left_since old mid new (IsBeforeOrAfter contents content (shown old)) first
        (weaker moment left_since mid new (Stepped (Torn end 1) (with_block contents content end is_there small) (shown mid)) (IsBeforeOrAfter contents content (shown old)) s.leaves
        (λ image on. subst (λ (t : List (List ℕ)). IsBeforeOrAfter contents content t image) same (torn_gate contents content end is_there small (shown mid) image on)))

  -- ---- recover

  module _ (contents : List (List ℕ)) (file rest : List ℕ) (split : file ≡ flat_map block contents ++ rest) (ends : IsEnd rest) (end : ℕ) (is_there : end ≡ length (flat_map block contents)) where
    abbrev Kept : S → Image → Type 0
    Kept old = StillKeeps contents rest (shown old)

    pub read_leaves : (old mid : S) → ((image : Image) → left_since old (moment old) image → may_leave old image) → ((image : Image) → may_leave old image → image.shown ≡ shown old) →
        LeavesJournal file (may_leave old) → AddsNone (may_leave old) (may_leave mid) → Goes shown moment left_since may_leave old mid → Leaves old mid (Kept old)
    read_leaves old mid now shows durable none goes =
        let here : (image : Image) → may_leave old image → Kept old image = λ image left. unchanged contents file rest split ends end is_there (shown old) image (durable image left) (shows image left) in
        goes_on moment left_since old old mid (Kept old) (may_leave mid) (started moment left_since old (Kept old) (λ image left. here image (now image left))) goes.time
        (λ image left. here image (none image left))

    pub cut_leaves : (old mid new : S) (next : List ℕ) (result : Result Unit StoreError) → Leaves old mid (Kept old) → shown mid ≡ shown old →
        Stage (Stepped (Cut end) file (shown mid)) next mid new result → Leaves old new (Kept old)
    cut_leaves old mid new next result first same s =
        and_then moment left_since old mid new (Kept old) first
        (weaker moment left_since mid new (Stepped (Cut end) file (shown mid)) (Kept old) s.leaves
        (λ image on. subst (λ (t : List (List ℕ)). StillKeeps contents rest t image) same (torn_cut contents file rest split ends end is_there (shown mid) image on)))

    pub end_leaves : (old mid new : S) (next : List ℕ) (result : Result Unit StoreError) → Leaves old mid (Kept old) → shown mid ≡ shown old →
        Stage (Stepped (Torn end 1) (flat_map block contents) (shown mid)) next mid new result → Leaves old new (Kept old)
    end_leaves old mid new next result first same s =
        and_then moment left_since old mid new (Kept old) first
        (weaker moment left_since mid new (Stepped (Torn end 1) (flat_map block contents) (shown mid)) (Kept old) s.leaves
        (λ image on. subst (λ (t : List (List ℕ)). StillKeeps contents rest t image) same (torn_end contents file rest split ends end is_there (shown mid) image on)))

  pub read_stage : (contents : List (List ℕ)) (old new : S) (found : IsFound tells seen may_leave contents old) →
      ((image : Image) → left_since old (moment old) image → may_leave old image) → ((image : Image) → may_leave old image → image.shown ≡ shown old) →
      tells new → seen new ≡ seen old → AddsNone (may_leave old) (may_leave new) → Goes shown moment left_since may_leave old new →
      (result : Result (Vec ℕ Global × ℕ) StoreError) → ReadsBlocks contents found.stands.end (seen old) result →
      IsRead tells seen shown may_leave moment left_since contents found.stands.end old new result
  read_stage contents old new found only shows told same none goes result judged = record {
    same = goes.same;
    settled = record { told = told; reads = same; durable = λ image left. found.durable image (none image left) };
    leaves = read_leaves contents (seen old) found.stands.end found.stands.split found.stands.is_end (length (flat_map block contents)) refl old new only shows found.durable none goes;
    none = none;
    judged = judged;
  }

-- the error of a store's own call, after nothing was refused of the journal
pub of_store : (contents : List (List ℕ)) (end : List ℕ) (error : StoreError) → refusal contents end ≡ None → IsOfStore error → IsRefusal contents end error
of_store contents end OutOfMemory none is = tt
of_store contents end Failed none is = none
of_store contents end Unread none is = absurd is
of_store contents end Full none is = absurd is
of_store contents end NoJournal none is = absurd is
of_store contents end OtherVersion none is = absurd is
of_store contents end Broken none is = absurd is

pub is_refusal : (contents : List (List ℕ)) (end : List ℕ) (error : StoreError) → IsOfJournal error → refusal contents end ≡ Some error → IsRefusal contents end error
is_refusal contents end OutOfMemory known is = tt
is_refusal contents end Failed known is = absurd known
is_refusal contents end Unread known is = tt
is_refusal contents end Full known is = is
is_refusal contents end NoJournal known is = is
is_refusal contents end OtherVersion known is = is
is_refusal contents end Broken known is = is

pub judged_err : (contents : List (List ℕ)) (end : List ℕ) (error : StoreError) (r : Result (Vec ℕ Global) StoreError) → IsErrAnd r (λ e. e ≡ error) →
    IsRefusal contents end error → IsJudged contents end r
judged_err contents end error (Ok bytes) is told = absurd is
judged_err contents end error (Err e) is told = subst (IsRefusal contents end) (sym is) told
