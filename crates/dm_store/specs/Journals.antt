-- What is on the disk before and after the calls of a journal.
use Rattle.std.specs.Prelude.{◌≡◌, ◌⊎◌, ℕ, true, List, [], ◌∷◌, ◌++◌, length, None, Some, Result, Ok, Err, Vec, ⊤}
use Rattle.std.specs.List.{flat_map}
use Rattle.std.specs.declared.alloc.Global.{Global}
use Rattle.dm_store.specs.Blocks.{Stands, block, at_rest, is_new, is_crash_end, refusal}
use Rattle.dm_store.specs.Calls.{Image, LeavesJournal, AddsNone}
use Rattle.dm_store.specs.declared.faults.StoreError.{StoreError}
use Rattle.dm_store.specs.declared.faults.StoreError.TheVariants.{OutOfMemory, Failed, Unread, Full}
use Rattle.dm_store.specs.declared.journal.Journal.{Journal}

-- the most bytes that a journal may have
abbrev pub largest_journal : ℕ
largest_journal = 134217728

-- The store tells, these blocks stand in what a read returns, and a crash leaves that: so a store is found after a start.
pub record IsFound {S : Type 0} (tells : S → Type 0) (seen : S → List ℕ) (may_leave : S → Image → Type 0)
    (contents : List (List ℕ)) (store : S) : Type 0 where
  pub told : tells store
  pub stands : Stands contents (seen store)
  pub durable : LeavesJournal (seen store) (may_leave store)

-- The store tells, the file is these blocks and a closed gate, all of it on the disk, and the journal knows where the gate is.
pub record IsAtRest {S : Type 0} (tells : S → Type 0) (seen : S → List ℕ) (may_leave : S → Image → Type 0)
    (contents : List (List ℕ)) (journal : Journal S) : Type 0 where
  pub told : tells journal.store
  pub file : seen journal.store ≡ at_rest contents
  pub gate : journal.end ≡ length (flat_map block contents)
  pub durable : LeavesJournal (seen journal.store) (may_leave journal.store)

-- a crash may leave the end of this file, in which these blocks stand
abbrev pub HasCrashEnd : List (List ℕ) → List ℕ → Type 0
HasCrashEnd contents file = (end : List ℕ) → file ≡ flat_map block contents ++ end → is_crash_end (is_new contents) end ≡ true

-- a crash left these blocks, with an end that is repaired, and what was shown
pub record Keeps (contents : List (List ℕ)) (shown : List (List ℕ)) (image : Image) : Type 0 where
  pub stands : Stands contents image.journal
  pub crash_end : HasCrashEnd contents image.journal
  pub same : image.shown ≡ shown

-- these blocks, or one more
abbrev pub IsBeforeOrAfter : List (List ℕ) → List ℕ → List (List ℕ) → Image → Type 0
IsBeforeOrAfter contents content shown image = Keeps contents shown image ⊎ Keeps (contents ++ content ∷ []) shown image

-- a crash while these blocks are recovered left them; their end is repaired still, if it was before
pub record StillKeeps (contents : List (List ℕ)) (end : List ℕ) (shown : List (List ℕ)) (image : Image) : Type 0 where
  pub stands : Stands contents image.journal
  pub crash_end : is_crash_end (is_new contents) end ≡ true → HasCrashEnd contents image.journal
  pub same : image.shown ≡ shown

-- The error tells the refusal, or that it was not read, or is want of memory. What failed later is refused nothing.
abbrev pub IsRefusal : List (List ℕ) → List ℕ → StoreError → Type 0
IsRefusal contents end OutOfMemory = ⊤
IsRefusal contents end Unread = ⊤
IsRefusal contents end Failed = refusal contents end ≡ None
IsRefusal contents end error = refusal contents end ≡ Some error

-- nothing is refused of a journal that was repaired, or whose repair failed; what is told of another is its refusal, that it was not
-- read, or want of memory
abbrev pub IsJudged : List (List ℕ) → List ℕ → Result (Vec ℕ Global) StoreError → Type 0
IsJudged contents end (Ok bytes) = refusal contents end ≡ None
IsJudged contents end (Err error) = IsRefusal contents end error

-- nothing was changed of a journal that is refused, or could not be read
pub record Untouched {S : Type 0} (seen : S → List ℕ) (may_leave : S → Image → Type 0) (old new : S) : Type 0 where
  pub same : seen new ≡ seen old
  pub none : AddsNone (may_leave old) (may_leave new)

-- the answers of a commit: a fault, want of memory, or a journal that would be too long
abbrev pub IsOfCommit : StoreError → Type 0
IsOfCommit OutOfMemory = ⊤
IsOfCommit Failed = ⊤
IsOfCommit Full = ⊤
IsOfCommit _ = ⊥
