-- What a store in memory was given, and what a crash may leave of it. It keeps every call from its first moment on.
use Rattle.std.specs.Prelude.{◌≡◌, ◌≤◌, ℕ, zero, suc, List, [], ◌∷◌, length, take, map, Vec, slice_set, ⊤}
use Rattle.std.specs.declared.alloc.Global.{Global}
use Rattle.std.proofs.Common.{refl, subst, sym, ◌∙◌, ap}
use Rattle.std.proofs.lemmas.List.{take_all}
use Rattle.std.proofs.Math.Nat.{le_refl}
use Rattle.dm_store.specs.Calls.{Image, After, AreFronts, GoesOnAs, OnJournal, OnShown, Torn, Cut, shown_behind}
use Rattle.dm_store.specs.Fronts.{front_anew, fronts_of_fronts, fronts_of_themselves}
use Rattle.dm_store.specs.declared.memory.Done.{Done}
use Rattle.dm_store.specs.declared.memory.Done.TheVariants.{Wrote, CutTo, Synced, Showed, Renewed}
use Rattle.dm_store.specs.declared.memory.MemStore.{MemStore}

-- this and nothing else is on the disk at first
abbrev pub first_image : List ℕ → List (List ℕ) → Image → Type 0
first_image journal shown image = (image.journal ≡ journal) × (image.shown ≡ shown)

-- the image of a journal and of reply files in memory
abbrev pub image_of : List ℕ → List (Vec ℕ Global) → Image
image_of journal replies = record { journal = journal; shown = map (λ reply. reply.items) replies }

-- What the call makes of an image; a sync leaves those whose journal is what a read returns. What a write or a cut makes of
-- one, a crash may cut short until the next sync.
abbrev pub step_of : Done → Image → Image → Type 0
step_of (Wrote at bytes) = OnJournal (Torn at (length bytes.items))
step_of (CutTo len) = OnJournal (Cut len)
step_of (Synced journal) = λ old new. (new ≡ old) × (old.journal ≡ journal.items)
step_of (Showed feed bytes) = OnShown (λ old new. new ≡ shown_behind old feed bytes.items)
step_of (Renewed feed text) = OnShown (λ old new. new ≡ slice_set old feed text.items)

-- what a crash after the calls may leave
abbrev pub outcomes : (Image → Type 0) → List Done → Image → Type 0
outcomes before [] = before
outcomes before (call ∷ calls) = outcomes (After (step_of call) before) calls

-- what is shown after a call, and after the calls
abbrev pub shown_then : Done → List (List ℕ) → List (List ℕ)
shown_then (Wrote at bytes) shown = shown
shown_then (CutTo len) shown = shown
shown_then (Synced journal) shown = shown
shown_then (Showed feed bytes) shown = shown_behind shown feed bytes.items
shown_then (Renewed feed text) shown = slice_set shown feed text.items

abbrev pub shown_after : List (List ℕ) → List Done → List (List ℕ)
shown_after shown [] = shown
shown_after shown (call ∷ calls) = shown_after (shown_then call shown) calls

-- what is shown goes on in a call: a text that is put anew begins with what the reply file showed
abbrev pub GoesOnIn : Done → List (List ℕ) → Type 0
GoesOnIn (Wrote at bytes) shown = ⊤
GoesOnIn (CutTo len) shown = ⊤
GoesOnIn (Synced journal) shown = ⊤
GoesOnIn (Showed feed bytes) shown = ⊤
GoesOnIn (Renewed feed text) shown = GoesOnAs feed shown text.items

-- so it was in each of the calls
abbrev pub HasGoneOn : List (List ℕ) → List Done → Type 0
HasGoneOn shown [] = ⊤
HasGoneOn shown (call ∷ calls) = GoesOnIn call shown × HasGoneOn (shown_then call shown) calls

-- a crash after so many of the calls, and no fewer than t, might have left it
pub record LeftSince (journal : List ℕ) (shown : List (List ℕ)) (calls : List Done) (t : ℕ) (image : Image) : Type 0 where
  pub count : ℕ
  pub from : t ≤ count
  pub to : count ≤ length calls
  pub left : outcomes (first_image journal shown) (take count calls) image

-- ---- the laws of a store

pub counted_now : (journal : List ℕ) (shown : List (List ℕ)) (calls : List Done) (t : ℕ) (image : Image) → t ≤ length calls →
    outcomes (first_image journal shown) calls image → LeftSince journal shown calls t image
counted_now journal shown calls t image le left = record {
  count = length calls;
  from = le;
  to = le_refl (length calls);
  left = subst (λ (cs : List Done). outcomes (first_image journal shown) cs image)
      (sym (take_all (length calls) calls (le_refl (length calls)))) left;
}

pub since_now : (journal : List ℕ) (shown : List (List ℕ)) (calls : List Done) (image : Image) →
    LeftSince journal shown calls (length calls) image →
    outcomes (first_image journal shown) calls image
since_now journal shown calls image left =
    subst (λ (cs : List Done). outcomes (first_image journal shown) cs image) (take_all left.count calls left.from) left.left

shows_then : (call : Done) (before : Image → Type 0) (shown : List (List ℕ)) → ((image : Image) → before image → image.shown ≡ shown) →
    (image : Image) → After (step_of call) before image → image.shown ≡ shown_then call shown
shows_then (Wrote at bytes) before shown was image left = left.stepped.same ∙ was left.from left.was
shows_then (CutTo len) before shown was image left = left.stepped.same ∙ was left.from left.was
shows_then (Synced journal) before shown was image left = ap (λ (i : Image). i.shown) left.stepped.0 ∙ was left.from left.was
shows_then (Showed feed bytes) before shown was image left = left.stepped.showing
    ∙ ap (λ (s : List (List ℕ)). shown_behind s feed bytes.items) (was left.from left.was)
shows_then (Renewed feed text) before shown was image left = left.stepped.showing
    ∙ ap (λ (s : List (List ℕ)). slice_set s feed text.items) (was left.from left.was)

all_shows : (calls : List Done) (before : Image → Type 0) (shown : List (List ℕ)) → ((image : Image) → before image → image.shown ≡ shown) →
    (image : Image) → outcomes before calls image → image.shown ≡ shown_after shown calls
all_shows [] before shown was image left = was image left
all_shows (call ∷ calls) before shown was image left =
    all_shows calls (After (step_of call) before) (shown_then call shown) (shows_then call before shown was) image left

pub all_show : (journal : List ℕ) (shown : List (List ℕ)) (calls : List Done) (image : Image) →
    outcomes (first_image journal shown) calls image → image.shown ≡ shown_after shown calls
all_show journal shown calls image left = all_shows calls (first_image journal shown) shown (λ image is. is.1) image left

-- ---- what was shown stays

grows_then : (call : Done) (shown : List (List ℕ)) → GoesOnIn call shown → AreFronts shown (shown_then call shown)
grows_then (Wrote at bytes) shown on = fronts_of_themselves shown
grows_then (CutTo len) shown on = fronts_of_themselves shown
grows_then (Synced journal) shown on = fronts_of_themselves shown
grows_then (Showed feed bytes) shown on = front_anew shown feed _ (bytes.items, refl)
grows_then (Renewed feed text) shown on = front_anew shown feed text.items on

grows_after : (shown : List (List ℕ)) (calls : List Done) → HasGoneOn shown calls → AreFronts shown (shown_after shown calls)
grows_after shown [] on = fronts_of_themselves shown
grows_after shown (call ∷ calls) on =
    fronts_of_fronts shown (shown_then call shown) (shown_after (shown_then call shown) calls) (grows_then call shown on.0) (grows_after (shown_then call shown) calls on.1)

grows_from : (shown : List (List ℕ)) (calls : List Done) (count : ℕ) → HasGoneOn shown calls → AreFronts (shown_after shown (take count calls)) (shown_after shown calls)
grows_from shown calls zero on = grows_after shown calls on
grows_from shown [] (suc count) on = fronts_of_themselves shown
grows_from shown (call ∷ calls) (suc count) on = grows_from (shown_then call shown) calls count on.1

pub grown_since : (journal : List ℕ) (shown : List (List ℕ)) (calls : List Done) (t : ℕ) (image : Image) → HasGoneOn shown calls →
    LeftSince journal shown calls t image → AreFronts image.shown (shown_after shown calls)
grown_since journal shown calls t image on left =
    subst (λ (l : List (List ℕ)). AreFronts l (shown_after shown calls)) (sym (all_show journal shown (take left.count calls) image left.left))
    (grows_from shown calls left.count on)

-- ---- what contracts see of it

abbrev pub seen_of : MemStore → List ℕ
seen_of store = store.seen.items

-- of each reply file, what it had shown when the store was made
abbrev pub was_shown_of : MemStore → List (List ℕ)
was_shown_of store = map (λ reply. reply.items) store.replies.items

abbrev pub shown_of : MemStore → List (List ℕ)
shown_of store = shown_after (was_shown_of store) store.done.items

abbrev pub left_of : MemStore → Image → Type 0
left_of store = outcomes (first_image store.first.items (was_shown_of store)) store.done.items

-- how many calls were done, and what a crash after so many of them or more might have left
abbrev pub moment_of : MemStore → ℕ
moment_of store = length store.done.items

abbrev pub left_since_of : MemStore → ℕ → Image → Type 0
left_since_of store = LeftSince store.first.items (was_shown_of store) store.done.items

-- It tells as long as a crash may leave what a read returns and what is shown, and each text that was put anew went on from what was
-- shown: some image is left, and clauses speak of it.
abbrev pub tells_of : MemStore → Type 0
tells_of store =
    left_of store (record { journal = seen_of store; shown = shown_of store }) × HasGoneOn (was_shown_of store) store.done.items
