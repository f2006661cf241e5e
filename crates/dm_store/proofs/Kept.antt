-- One more call of a store in memory.
use Rattle.std.proofs.Common.{◌≡◌, ◌⊎◌, inl, inr, ℕ, ◌+◌, ◌<◌, ◌≤◌, List, [], ◌∷◌, ◌++◌, length, take, get_or, Vec, refl, sym, ◌∙◌, ap, subst, arith, length-append, length-set, slice_set}
use Rattle.std.proofs.lemmas.Bool.{cases_lt}
use Rattle.std.proofs.lemmas.List.{take_all, take_more, take-append-le}
use Rattle.dm_store.specs.Calls.{Image, After, GoesOnAs, OnJournal, OnShown, Torn, Cut, Follows, Elapses, ShowsFront, ShowsText, written}
use Rattle.std.specs.declared.alloc.Global.{Global}
use Rattle.dm_store.proofs.Tearing.{torn_front, cut_front}
use Rattle.dm_store.specs.declared.memory.Done.{Done}
use Rattle.dm_store.specs.declared.memory.Done.TheVariants.{Wrote, CutTo, Synced, Showed, Renewed}
use Rattle.dm_store.specs.declared.memory.MemStore.{MemStore}
use Rattle.dm_store.specs.Memory.{GoesOnIn, HasGoneOn, LeftSince, outcomes, step_of, first_image, shown_then, shown_after, seen_of, shown_of, was_shown_of, left_of, tells_of}

last_back : (before : Image → Type 0) (calls : List Done) (call : Done) (image : Image) → outcomes before (calls ++ call ∷ []) image → After (step_of call) (outcomes before calls) image
last_back before [] call image left = left
last_back before (c ∷ calls) call image left = last_back (After (step_of c) before) calls call image left

last_there : (before : Image → Type 0) (calls : List Done) (call : Done) (image : Image) → After (step_of call) (outcomes before calls) image → outcomes before (calls ++ call ∷ []) image
last_there before [] call image left = left
last_there before (c ∷ calls) call image left = last_there (After (step_of c) before) calls call image left

shown_last : (shown : List (List ℕ)) (calls : List Done) (call : Done) → shown_after shown (calls ++ call ∷ []) ≡ shown_then call (shown_after shown calls)
shown_last shown [] call = refl
shown_last shown (c ∷ calls) call = shown_last (shown_then c shown) calls call

-- what is shown after one call more of a list
pub shown_one_more : (shown : List (List ℕ)) (calls : List Done) (i : ℕ) (call : Done) → i < length calls → call ≡ get_or calls i call →
    shown_after shown (take (i + 1) calls) ≡ shown_then call (shown_after shown (take i calls))
shown_one_more shown calls i call low is =
    ap (shown_after shown) (take_more calls i call low ∙ sym (ap (λ (c : Done). take i calls ++ c ∷ []) is)) ∙ shown_last shown (take i calls) call

length_then : (call : Done) (shown : List (List ℕ)) → length (shown_then call shown) ≡ length shown
length_then (Wrote at bytes) shown = refl
length_then (CutTo len) shown = refl
length_then (Synced journal) shown = refl
length_then (Showed feed bytes) shown = length-set shown feed _
length_then (Renewed feed text) shown = length-set shown feed _

-- as many reply files after the calls
pub length_after : (shown : List (List ℕ)) (calls : List Done) → length (shown_after shown calls) ≡ length shown
length_after shown [] = refl
length_after shown (call ∷ calls) = length_after (shown_then call shown) calls ∙ length_then call shown

-- the image after one call more of a list
pub one_more : (before : Image → Type 0) (calls : List Done) (i : ℕ) (call : Done) (from image : Image) → i < length calls → call ≡ get_or calls i call →
    outcomes before (take i calls) from → step_of call from image → outcomes before (take (i + 1) calls) image
one_more before calls i call from image low is was step =
    subst (λ (cs : List Done). outcomes before cs image) (ap (λ (c : Done). take i calls ++ c ∷ []) is ∙ sym (take_more calls i call low))
    (last_there before (take i calls) call image (record { from = from; was = was; stepped = step }))

gone_on_last : (shown : List (List ℕ)) (calls : List Done) (call : Done) → HasGoneOn shown calls → GoesOnIn call (shown_after shown calls) → HasGoneOn shown (calls ++ call ∷ [])
gone_on_last shown [] call on here = (here, tt)
gone_on_last shown (c ∷ calls) call on here = (on.0, gone_on_last (shown_then c shown) calls call on.1 here)

module _ (m : MemStore) where
  abbrev first : Image → Type 0
  first = first_image m.first.items (was_shown_of m)

  abbrev calls : List Done
  calls = m.done.items

  abbrev since : ℕ → Image → Type 0
  since = LeftSince m.first.items (was_shown_of m) calls

  module _ (call : Done) (more : List Done) (is : more ≡ calls ++ call ∷ []) where
    pub outcome_back : (image : Image) → outcomes first more image → After (step_of call) (left_of m) image
    outcome_back image left = last_back first calls call image (subst (λ (cs : List Done). outcomes first cs image) is left)

    pub shown_more : shown_after (was_shown_of m) more ≡ shown_then call (shown_of m)
    shown_more = ap (shown_after (was_shown_of m)) is ∙ shown_last (was_shown_of m) calls call

    pub elapses_more : (outs : Image → Type 0) → ((image : Image) → outcomes first more image → outs image) →
        Elapses (length calls) (length more) since (LeftSince m.first.items (was_shown_of m) more) outs
    elapses_more outs here = record { later = omega (arith, long); nothing_else = nothing; keeps = keeps }
      where
        long : length more ≡ length calls + 1
        long = ap length is ∙ length-append calls (call ∷ [])

        front : (count : ℕ) → count ≤ length calls → take count more ≡ take count calls
        front count low = ap (take count) is ∙ take-append-le count calls (call ∷ []) low

        nothing : (t : ℕ) (image : Image) → t ≤ length calls → LeftSince m.first.items (was_shown_of m) more t image → since t image ⊎ outs image
        nothing t image le left = elim (cases_lt (length calls) left.count) [
          | inl late ↦
              let all : take left.count more ≡ more = take_all left.count more (omega (arith, long, late)) in
              inr (here image (subst (λ (cs : List Done). outcomes first cs image) all left.left))
          | inr early ↦
              inl (record {
                count = left.count;
                from = left.from;
                to = early;
                left = subst (λ (cs : List Done). outcomes first cs image) (front left.count early) left.left;
              })
        ]

        keeps : (t : ℕ) (image : Image) → t ≤ length calls → since t image → LeftSince m.first.items (was_shown_of m) more t image
        keeps t image le past = record {
          count = past.count;
          from = past.from;
          to = omega (arith, long, past.to);
          left = subst (λ (cs : List Done). outcomes first cs image) (sym (front past.count past.to)) past.left;
        }

    -- the store tells on, where a read returns this then
    abbrev Tells : List ℕ → Type 0
    Tells seen = outcomes first more (record { journal = seen; shown = shown_after (was_shown_of m) more }) × HasGoneOn (was_shown_of m) more

    told_more : (seen : List ℕ) → tells_of m → step_of call (record { journal = seen_of m; shown = shown_of m }) (record { journal = seen; shown = shown_then call (shown_of m) }) →
        GoesOnIn call (shown_of m) → Tells seen
    told_more seen told step on = (
      subst (λ (cs : List Done). outcomes first cs (record { journal = seen; shown = shown_after (was_shown_of m) more })) (sym is)
          (subst (λ (s : List (List ℕ)). outcomes first (calls ++ call ∷ []) (record { journal = seen; shown = s })) (sym shown_more)
          (last_there first calls call (record { journal = seen; shown = shown_then call (shown_of m) })
          (record { from = record { journal = seen_of m; shown = shown_of m }; was = told.0; stepped = step }))),
      subst (HasGoneOn (was_shown_of m)) (sym is) (gone_on_last (was_shown_of m) calls call told.1 on),
    )

  -- ---- each kind of call

  module _ (at : ℕ) (copy : Vec ℕ Global) (more : List Done) (is : more ≡ calls ++ Wrote at copy ∷ []) (bytes : List ℕ) (same : copy.items ≡ bytes) where
    pub told_written : (new : List ℕ) → at ≤ length (seen_of m) → new ≡ written (seen_of m) at bytes → tells_of m → Tells (Wrote at copy) more is new
    told_written new fits wrote told =
        told_more (Wrote at copy) more is new told
        (record { journal = subst (Torn at (length copy.items) (seen_of m)) (sym wrote) (torn_front (seen_of m) bytes at (length copy.items) fits (omega (arith, ap length same))); same = refl }) tt

    pub written_follows : Follows (OnJournal (Torn at (length bytes))) (left_of m) (outcomes first more)
    written_follows = λ image left. subst (λ (xs : List ℕ). After (OnJournal (Torn at (length xs))) (left_of m) image) same (outcome_back (Wrote at copy) more is image left)

  module _ (len : ℕ) (more : List Done) (is : more ≡ calls ++ CutTo len ∷ []) where
    pub told_cut : (new : List ℕ) → len ≤ length (seen_of m) → new ≡ take len (seen_of m) → tells_of m → Tells (CutTo len) more is new
    told_cut new fits cut told =
        told_more (CutTo len) more is new told (record { journal = subst (Cut len (seen_of m)) (sym cut) (cut_front (seen_of m) len len (omega arith) fits); same = refl }) tt

  module _ (copy : Vec ℕ Global) (more : List Done) (is : more ≡ calls ++ Synced copy ∷ []) (same : copy.items ≡ seen_of m) where
    pub told_synced : tells_of m → Tells (Synced copy) more is (seen_of m)
    told_synced told = told_more (Synced copy) more is (seen_of m) told (refl, sym same) tt

    pub synced_journal : (image : Image) → outcomes first more image → image.journal ≡ seen_of m
    synced_journal image left =
        let after = outcome_back (Synced copy) more is image left in
        ap (λ (i : Image). i.journal) after.stepped.0 ∙ after.stepped.1 ∙ same

    pub synced_none : (image : Image) → outcomes first more image → left_of m image
    synced_none image left =
        let after = outcome_back (Synced copy) more is image left in
        subst (left_of m) (sym after.stepped.0) after.was

  module _ (feed : ℕ) (copy : Vec ℕ Global) (more : List Done) (is : more ≡ calls ++ Showed feed copy ∷ []) (bytes rest : List ℕ) (is_front : copy.items ++ rest ≡ bytes) where
    pub told_showed : tells_of m → Tells (Showed feed copy) more is (seen_of m)
    told_showed told = told_more (Showed feed copy) more is (seen_of m) told (record { showing = refl; same = refl }) tt

    pub front_shown : ShowsFront feed bytes (shown_of m) (shown_after (was_shown_of m) more)
    front_shown = record { front = copy.items; rest = rest; is_front = is_front; behind = shown_more (Showed feed copy) more is }

    pub front_follows : Follows (OnShown (ShowsFront feed bytes)) (left_of m) (outcomes first more)
    front_follows = λ image left.
        let after = outcome_back (Showed feed copy) more is image left in
        record {
          from = after.from;
          was = after.was;
          stepped = record {
            showing = record { front = copy.items; rest = rest; is_front = is_front; behind = after.stepped.showing };
            same = after.stepped.same;
          };
        }

  module _ (feed : ℕ) (copy : Vec ℕ Global) (more : List Done) (is : more ≡ calls ++ Renewed feed copy ∷ []) (text : List ℕ) (is_text : copy.items ≡ text) where
    pub told_renewed : tells_of m → GoesOnAs feed (shown_of m) text → Tells (Renewed feed copy) more is (seen_of m)
    told_renewed told on =
        told_more (Renewed feed copy) more is (seen_of m) told (record { showing = refl; same = refl }) (subst (GoesOnAs feed (shown_of m)) (sym is_text) on)

    pub text_shown : shown_after (was_shown_of m) more ≡ slice_set (shown_of m) feed text
    text_shown = shown_more (Renewed feed copy) more is ∙ ap (slice_set (shown_of m) feed) is_text

    pub text_follows : Follows (OnShown (ShowsText feed text)) (left_of m) (outcomes first more)
    text_follows = λ image left.
        let after = outcome_back (Renewed feed copy) more is image left in
        record {
          from = after.from;
          was = after.was;
          stepped = record { showing = inr (after.stepped.showing ∙ ap (slice_set after.from.shown feed) is_text); same = after.stepped.same };
        }
