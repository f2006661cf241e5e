-- A call on the journal and a sync, from a journal that is on the disk.
use Rattle.std.specs.Prelude.{◌≡◌, ◌≤◌, ℕ, List, length, take, Vec, Result, Ok, Err, OnOk, None}
use Rattle.std.specs.List.{flat_map}
use Rattle.std.specs.declared.alloc.Global.{Global}
use Rattle.dm_store.specs.Blocks.{block, refusal}
use Rattle.dm_store.specs.Calls.{Image, Torn, Cut, OnJournal, AddsNone, LeavesJournal, LeavesOnly, written}
use Rattle.dm_store.specs.Journals.{IsRefusal, StillKeeps}
use Rattle.dm_store.specs.declared.faults.StoreError.{StoreError}

-- the store tells, a read returns this journal, and a crash leaves it
pub record IsSettled {S : Type 0} (tells : S → Type 0) (seen : S → List ℕ) (may_leave : S → Image → Type 0) (file : List ℕ)
    (store : S) : Type 0 where
  pub told : tells store
  pub reads : seen store ≡ file
  pub durable : LeavesJournal file (may_leave store)

-- A crash meanwhile leaves what has P. At Ok the journal is the next one, on the disk.
pub record IsStage {S : Type 0} (tells : S → Type 0) (seen : S → List ℕ) (shown : S → List (List ℕ))
    (may_leave : S → Image → Type 0) (moment : S → ℕ)
    (left_since : S → ℕ → Image → Type 0) (P : Image → Type 0) (next : List ℕ) (old new : S)
    (result : Result Unit StoreError) : Type 0 where
  pub same : shown new ≡ shown old
  pub leaves : LeavesOnly moment left_since old new P
  pub done : OnOk result (IsSettled tells seen may_leave next new)

-- the journal and what is shown, after a step of the journal
abbrev pub Stepped : (List ℕ → List ℕ → Type 0) → List ℕ → List (List ℕ) → Image → Type 0
Stepped step file shown = OnJournal step (record { journal = file; shown = shown })

-- from this journal, on the disk, the bytes are written
abbrev pub IsWritten : {S : Type 0} → (S → Type 0) → (S → List ℕ) → (S → List (List ℕ)) → (S → Image → Type 0) → (S → ℕ) →
    (S → ℕ → Image → Type 0) →
    List ℕ → ℕ → List ℕ → S → S → Result Unit StoreError → Type 0
IsWritten tells seen shown may_leave moment left_since file at bytes old new result =
    at ≤ length file → IsSettled tells seen may_leave file old →
    IsStage tells seen shown may_leave moment left_since (Stepped (Torn at (length bytes)) file (shown old))
    (written file at bytes) old new result

-- from this journal, on the disk, it is cut
abbrev pub IsCut : {S : Type 0} → (S → Type 0) → (S → List ℕ) → (S → List (List ℕ)) → (S → Image → Type 0) → (S → ℕ) →
    (S → ℕ → Image → Type 0) →
    List ℕ → ℕ → S → S → Result Unit StoreError → Type 0
IsCut tells seen shown may_leave moment left_since file len old new result =
    len ≤ length file → IsSettled tells seen may_leave file old →
    IsStage tells seen shown may_leave moment left_since (Stepped (Cut len) file (shown old)) (take len file) old new result

-- the bytes of the journal with the place behind its blocks, where nothing is refused of it
abbrev pub ReadsBlocks : List (List ℕ) → List ℕ → List ℕ → Result (Vec ℕ Global × ℕ) StoreError → Type 0
ReadsBlocks contents end file (Ok (bytes, place)) = (bytes.items ≡ file) × (place ≡ length (flat_map block contents))
    × (refusal contents end ≡ None)
ReadsBlocks contents end file (Err error) = IsRefusal contents end error

-- the journal was read and judged, and nothing was changed
pub record IsRead {S : Type 0} (tells : S → Type 0) (seen : S → List ℕ) (shown : S → List (List ℕ))
    (may_leave : S → Image → Type 0) (moment : S → ℕ)
    (left_since : S → ℕ → Image → Type 0) (contents : List (List ℕ)) (end : List ℕ) (old new : S)
    (result : Result (Vec ℕ Global × ℕ) StoreError) : Type 0 where
  pub same : shown new ≡ shown old
  pub settled : IsSettled tells seen may_leave (seen old) new
  pub leaves : LeavesOnly moment left_since old new (StillKeeps contents end (shown old))
  pub none : AddsNone (may_leave old) (may_leave new)
  pub judged : ReadsBlocks contents end (seen old) result
