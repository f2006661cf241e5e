-- Boards that are published on one time after another.
use Rattle.std.proofs.Common.{◌≡◌, ℕ, ◌+◌, ◌≤◌, inl, inr, Bool, true, false, ◌||◌, ◌==◌, List, [], ◌∷◌, ◌++◌, length, map, option_map, Option, Some, None, IsSome, refl, sym, ap, subst, ◌∙◌, arith, get_or, slice_get, All}
use Rattle.std.proofs.lemmas.List.{length-map}
use Rattle.std.proofs.lemmas.List.Elements.{All-nil, All-append, All-weaker}
use Rattle.std.proofs.lemmas.Option.{slice_get_within, slice_get-get_or, slice_get-map}
use Rattle.dm_outside.specs.Faults.{HasRisen}
use Rattle.dm_network.specs.Net.{Net}
use Rattle.dm_cert.specs.declared.notes.Note.{Note}
use Rattle.dm_publish.specs.Shown.{KeepsOthers, ShowsLast, ShowsTimes, ShowsCancelled, ShowsCancelledLast}
use Rattle.dm_publish.specs.Value.{Published, nothing}
use Rattle.dm_publish.specs.Publishing.{has_note, Publishes, IsDropped}
use Rattle.dm_publish.specs.Since.{IsNoteSince, AllShow, AllShowLast, IsKeptSince, AreKeptSince}

some_same : {X : Type 0} {x y : X} → Some x ≡ Some y → x ≡ y
some_same e = cc

pub risen_then : (a b c d : ℕ) → a ≤ b → c ≤ d → HasRisen b c → HasRisen a d
risen_then a b c d low high (inl r) = inl (omega arith)
risen_then a b c d low high (inr r) = inr (omega arith)

both_false : (a b : Bool) → (a || b) ≡ false → (a ≡ false) × (b ≡ false)
both_false false b e = (refl, e)
both_false true b e = absurd cc

no_earlier_note : (notes fresh : List Note) (at : ℕ) → has_note (notes ++ fresh) at ≡ false → has_note notes at ≡ false
no_earlier_note [] fresh at none = refl
no_earlier_note (note ∷ notes) fresh at none =
    let b = both_false (at + 1 == note.board) (has_note (notes ++ fresh) at) none in
    ap (λ x. x || has_note notes at) b.0 ∙ no_earlier_note notes fresh at b.1

told_still : {V : Type 0} (net : Net) (stop : ℕ) (before now : Option (ℕ → Option V)) → KeepsOthers net stop before now → IsSome before → IsSome now
told_still net stop None now k some = absurd cc
told_still net stop (Some f) None k some = absurd k
told_still net stop (Some f) (Some g) k some = refl

-- where nothing was published
shows_none : (net : Net) (stop : ℕ) (told : Option (ℕ → Option ℕ)) → ShowsLast net [] stop told
shows_none net stop None = tt
shows_none net stop (Some shown) = λ i at lt. absurd (omega arith)

marks_none : (net : Net) (stop : ℕ) (told : Option (ℕ → Option Bool)) → ShowsCancelledLast net [] stop told
marks_none net stop None = tt
marks_none net stop (Some shown) = λ i at lt. absurd (omega arith)

marks_all : (net : Net) (cancelled : List Bool) (stop : ℕ) (told : Option (ℕ → Option Bool)) → ShowsCancelled net cancelled stop told → ShowsCancelledLast net cancelled stop told
marks_all net cancelled stop None marks = tt
marks_all net cancelled stop (Some shown) marks = λ i at lt. marks i at

shows_all : (net : Net) (x : List ℕ) (stop : ℕ) (told : Option (ℕ → Option ℕ)) → ShowsTimes net x stop told → ShowsLast net x stop told
shows_all net x stop None shows = tt
shows_all net x stop (Some shown) shows = λ i at lt. shows i at

module _ {B : Type 0} (place : B → ℕ) (times : B → Option (ℕ → Option ℕ)) (flags : B → Option (ℕ → Option Bool)) (faults : B → ℕ) (is_sound : B → ℕ → Type 0) (net : Net) where
  same_length : (old new : List B) → map place new ≡ map place old → length new ≡ length old
  same_length old new stops = sym (length-map new place) ∙ (ap length stops ∙ length-map old place)

  same_place : (old new : List B) (at : ℕ) (before now : B) → map place new ≡ map place old → slice_get old at ≡ Some before → slice_get new at ≡ Some now → place now ≡ place before
  same_place old new at before now stops b n =
      let one : slice_get (map place new) at ≡ Some (place now) = slice_get-map place new at ∙ ap (option_map place) n in
      let other : slice_get (map place old) at ≡ Some (place before) = slice_get-map place old at ∙ ap (option_map place) b in
      some_same (sym one ∙ (ap (λ l. slice_get l at) stops ∙ other))

  -- the board that stands at a place of another list of as many
  stands_at : (old new : List B) (at : ℕ) (before : B) → length new ≡ length old → slice_get old at ≡ Some before → slice_get new at ≡ Some (get_or new at before)
  stands_at old new at before same b = slice_get-get_or new at before (omega (arith, same, slice_get_within old at before b))

  pub kept_at_first : (boards : List B) → AreKeptSince place times flags faults is_sound net boards boards []
  kept_at_first boards = record {
    stops = refl;
    each = λ at before now b n.
        let K : B → Type 0 = λ z. IsKeptSince place times flags faults is_sound net [] at before z in
        subst K (some_same (sym b ∙ n)) (record { later = omega arith; sound = λ s. s; told = λ none some. some; told_flags = λ none some. some });
    noted = All-nil (IsNoteSince place faults is_sound net boards boards);
  }

  pub all_show_last : (x : Published) (notes : List Note) (first now : List B) → AllShow place times flags net x notes first now → AllShowLast place times flags net x notes first now
  all_show_last x notes first now all = λ at before after b n none.
      let shown = all at before after b n none in
      record {
        shows = λ some. shows_all net x.times (place after) (times after) (shown.shows some);
        marks = λ some. marks_all net x.cancelled (place after) (flags after) (shown.marks some);
      }

  pub all_show_none : (notes : List Note) (first now : List B) → AllShowLast place times flags net nothing notes first now
  all_show_none notes first now = λ at before after b n none. record {
    shows = λ some. shows_none net (place after) (times after);
    marks = λ some. marks_none net (place after) (flags after);
  }

  module _ (last x : Published) (entry : ℕ) (old middle new : List B) (notes now_notes : List Note) (count : ℕ) (kept : AreKeptSince place times flags faults is_sound net old middle notes) (p : Publishes place times flags faults is_sound net last x entry middle new notes now_notes count) where
    none_before : (at : ℕ) → has_note now_notes at ≡ false → has_note notes at ≡ false
    none_before at none = no_earlier_note notes p.fresh at (ap (λ l. has_note l at) (sym p.notes) ∙ none)

    old_note : (note : Note) → IsNoteSince place faults is_sound net old middle note → IsNoteSince place faults is_sound net old new note
    old_note note i =
        let now = get_or new i.at i.after in
        let stands = stands_at middle new i.at i.after (same_length middle new p.stops) i.stands in
        record {
          at = i.at;
          before = i.before;
          after = now;
          stood = i.stood;
          stands = stands;
          named = i.named;
          of_stop = i.of_stop;
          risen = risen_then (faults i.before) (faults i.before) (faults i.after) (faults now) (omega arith) (p.each i.at i.after now i.stands stands).later i.risen;
          unsound = i.unsound;
        }

    new_note : (note : Note) → IsDropped place faults is_sound net entry middle new notes note → IsNoteSince place faults is_sound net old new note
    new_note note d =
        let before = get_or old d.at d.before in
        let stood = stands_at middle old d.at d.before (sym (same_length old middle kept.stops)) d.stood in
        let k = kept.each d.at before d.before stood d.stood in
        record {
          at = d.at;
          before = before;
          after = d.now;
          stood = stood;
          stands = d.stands;
          named = d.named;
          of_stop = d.of_stop ∙ same_place old middle d.at before d.before kept.stops stood d.stood;
          risen = risen_then (faults before) (faults d.before) (faults d.now) (faults d.now) k.later (omega arith) d.risen;
          unsound = λ s. d.unsound (k.sound s);
        }

    pub published : AreKeptSince place times flags faults is_sound net old new now_notes
    published = record {
      stops = p.stops ∙ kept.stops;
      each = λ at before now b n.
          let middle_is = stands_at old middle at before (same_length old middle kept.stops) b in
          let k = kept.each at before (get_or middle at before) b middle_is in
          let q = p.each at (get_or middle at before) now middle_is n in
          record {
            later = omega (arith, k.later, q.later);
            sound = λ s. q.stays_sound (k.sound s);
            told = λ none some. told_still net (place now) (times (get_or middle at before)) (times now) (q.others none) (k.told (none_before at none) some);
            told_flags = λ none some. told_still net (place now) (flags (get_or middle at before)) (flags now) (q.other_marks none) (k.told_flags (none_before at none) some);
          };
      noted =
          let P : Note → Type 0 = IsNoteSince place faults is_sound net old new in
          subst (All P) (sym p.notes)
          (All-append P notes p.fresh (All-weaker (IsNoteSince place faults is_sound net old middle) P old_note notes kept.noted)
          (All-weaker (IsDropped place faults is_sound net entry middle new notes) P new_note p.fresh p.dropped));
    }

    pub all_shown : AllShowLast place times flags net last notes old middle → AllShow place times flags net x now_notes old new
    all_shown showed = λ at before now b n none.
        let middle_is = stands_at old middle at before (same_length old middle kept.stops) b in
        let k = kept.each at before (get_or middle at before) b middle_is in
        let q = p.each at (get_or middle at before) now middle_is n in
        let was = showed at before (get_or middle at before) b middle_is (none_before at none) in
        record {
          shows = λ some. q.shows none (k.told (none_before at none) some) (was.shows some);
          marks = λ some. q.marks none (k.told_flags (none_before at none) some) (was.marks some);
        }
