-- What the calls of a store do, and what a crash at any moment may leave. A store is seen through functions that its trait
-- names: what a read returns, what was shown, what a crash may leave, the moment, and the faults.
use Rattle.std.specs.Prelude.{◌≡◌, ◌⊎◌, ℕ, ◌+◌, ◌≤◌, min, max, List, [], ◌∷◌, ◌++◌, length, take, drop, Result, IsErrOf, IfErr, ⊤, slice_set, slice_index_or}
use mathlib.Core.List.{IsPrefix}
use Rattle.dm_outside.specs.Faults.{HasRisen}
use Rattle.dm_store.specs.declared.faults.StoreError.{StoreError}
use Rattle.dm_store.specs.declared.faults.StoreError.TheVariants.{OutOfMemory, Failed}

-- what a crash leaves: the journal, and of each reply file what it has shown until then
pub record Image : Type 0 where
  pub journal : List ℕ
  pub shown : List (List ℕ)

-- old with these bytes from this offset on
abbrev pub written : List ℕ → ℕ → List ℕ → List ℕ
written old at bytes = take at old ++ bytes ++ drop (at + length bytes) old

-- after a write of n bytes that a crash cuts short: any bytes in the range and past the old end, the same elsewhere
pub record Torn (at n : ℕ) (old new : List ℕ) : Type 0 where
  pub before : take at new ≡ take at old
  pub after : drop (at + n) new ≡ drop (at + n) old
  pub no_shorter : length old ≤ length new
  pub no_longer : length new ≤ max (length old) (at + n)

-- after a cut: some length between; what is shorter already stays
pub record Cut (n : ℕ) (old new : List ℕ) : Type 0 where
  pub no_shorter : min n (length old) ≤ length new
  pub front : take (length new) old ≡ new

-- the journal goes this step, and what is shown stays
pub record OnJournal (step : List ℕ → List ℕ → Type 0) (old new : Image) : Type 0 where
  pub journal : step old.journal new.journal
  pub same : new.shown ≡ old.shown

-- what is shown goes this step, and the journal stays
pub record OnShown (step : List (List ℕ) → List (List ℕ) → Type 0) (old new : Image) : Type 0 where
  pub showing : step old.shown new.shown
  pub same : new.journal ≡ old.journal

-- one of these outcomes of a crash, after a step
pub record After (step : Image → Image → Type 0) (outcomes : Image → Type 0) (new : Image) : Type 0 where
  pub from : Image
  pub was : outcomes from
  pub stepped : step from new

-- each new outcome of a crash is an old outcome after a step
abbrev pub Follows : (Image → Image → Type 0) → (Image → Type 0) → (Image → Type 0) → Type 0
Follows step old new = (image : Image) → new image → After step old image

-- no outcome of a crash is new
abbrev pub AddsNone : (Image → Type 0) → (Image → Type 0) → Type 0
AddsNone old new = (image : Image) → new image → old image

-- a crash leaves this journal and no other
abbrev pub LeavesJournal : List ℕ → (Image → Type 0) → Type 0
LeavesJournal journal outcomes = (image : Image) → outcomes image → image.journal ≡ journal

-- Time goes on: a crash since t might have left what it might have left before, or one of these outcomes.
pub record Elapses (before now : ℕ) (past since : ℕ → Image → Type 0) (outcomes : Image → Type 0) : Type 0 where
  pub later : before ≤ now
  pub nothing_else : (t : ℕ) (image : Image) → t ≤ before → since t image → past t image ⊎ outcomes image
  pub keeps : (t : ℕ) (image : Image) → t ≤ before → past t image → since t image

-- A crash at any moment since old leaves an image that has P.
pub record LeavesOnly {S : Type 0} (moment : S → ℕ) (left_since : S → ℕ → Image → Type 0) (old new : S) (P : Image → Type 0) : Type 0 where
  pub later : moment old ≤ moment new
  pub each : (image : Image) → left_since new (moment old) image → P image
  -- for a run that began earlier
  pub before : (t : ℕ) (image : Image) → t ≤ moment old → left_since new t image → left_since old t image ⊎ P image

-- A call on the journal: the store shows the same, and time goes on.
pub record Goes {S : Type 0} (shown : S → List (List ℕ)) (moment : S → ℕ) (left_since : S → ℕ → Image → Type 0)
    (may_leave : S → Image → Type 0) (old new : S) : Type 0 where
  pub same : shown new ≡ shown old
  pub time : Elapses (moment old) (moment new) (left_since old) (left_since new) (may_leave new)

-- A call on a reply file: the journal stays, and time goes on. A crash leaves what it might have left before, with what is shown
-- after this step.
pub record GoesShowing {S : Type 0} (seen : S → List ℕ) (moment : S → ℕ) (left_since : S → ℕ → Image → Type 0)
    (may_leave : S → Image → Type 0) (step : List (List ℕ) → List (List ℕ) → Type 0) (old new : S) : Type 0 where
  pub same : seen new ≡ seen old
  pub crash : Follows (OnShown step) (may_leave old) (may_leave new)
  pub time : Elapses (moment old) (moment new) (left_since old) (left_since new) (After (OnShown step) (may_leave old))

-- for as many feeds, each list is a front of the other's
abbrev pub AreFronts : {X : Type 0} → List (List X) → List (List X) → Type 0
AreFronts [] [] = Unit {0}
AreFronts [] (more ∷ others) = ⊥
AreFronts (items ∷ lists) [] = ⊥
AreFronts (items ∷ lists) (more ∷ others) = IsPrefix items more × AreFronts lists others

-- what is shown, with these bytes behind what the reply file of the feed has shown
abbrev pub shown_behind : List (List ℕ) → ℕ → List ℕ → List (List ℕ)
shown_behind shown feed bytes = slice_set shown feed (slice_index_or shown feed [] ++ bytes)

-- a front of the bytes was shown, or all of them
pub record ShowsFront (feed : ℕ) (bytes : List ℕ) (old new : List (List ℕ)) : Type 0 where
  pub front : List ℕ
  pub rest : List ℕ
  pub is_front : front ++ rest ≡ bytes
  pub behind : new ≡ shown_behind old feed front

-- the text goes on from what the reply file of the feed has shown
abbrev pub GoesOnAs : ℕ → List (List ℕ) → List ℕ → Type 0
GoesOnAs feed shown text = IsPrefix (slice_index_or shown feed []) text

-- the reply file of the feed shows what it did, or the text
abbrev pub ShowsText : ℕ → List ℕ → List (List ℕ) → List (List ℕ) → Type 0
ShowsText feed text old new = (new ≡ old) ⊎ (new ≡ slice_set old feed text)

-- the answers of a store's own calls: a fault, or want of memory
abbrev pub IsOfStore : StoreError → Type 0
IsOfStore OutOfMemory = ⊤
IsOfStore Failed = ⊤
IsOfStore _ = ⊥

-- The count of faults never falls, and `Failed` comes only where it has risen. No other error but want of memory comes.
pub record HasCause {T : Type 0} (before now : ℕ) (result : Result T StoreError) : Type 0 where
  pub later : before ≤ now
  pub failed : IsErrOf result Failed → HasRisen before now
  pub known : IfErr result IsOfStore
