-- Notes, one behind the other.
use Rattle.std.proofs.Common.{◌≡◌, ℕ, ◌+◌, ◌<◌, ◌≤◌, Bool, true, false, map, List, [], ◌∷◌, ◌++◌, length, Ok, Err, sym, ap, subst, ◌∙◌}
use Rattle.std.specs.Prelude.{All}
use Rattle.std.proofs.lemmas.List.{map-append}
use Rattle.std.proofs.lemmas.List.Sums.{fold-append}
use Rattle.std.proofs.lemmas.List.Elements.{All-nil, All-cons, All-head, All-tail, All-map}
use Rattle.dm_base.specs.declared.limits.TheConstants.{BOARDS}
use Rattle.dm_feed.specs.Parts.{largest_id}
use Rattle.dm_check_rows.specs.Claims.{Tells}
use Rattle.dm_text.specs.Places.{Place}
use Rattle.dm_rows.specs.declared.messages.Entry.{Entry}
use Rattle.dm_cert.specs.declared.notes.Note.{Note}
use Rattle.dm_check.specs.declared.faults.Stop.{Stop}
use Rattle.dm_check.specs.declared.told_notes.Notes.{Notes}
use Rattle.dm_check.specs.FalseRecords.{TellsNote, IsNextNote}
use Rattle.dm_check.specs.Judged.{AreBefore, NotesOn, TellsNotes}
use Rattle.dm_check.proofs.Chained.{HasKept, kept_none, kept_more, kept_stop, kept_all}

module _ (history : List Entry) (count : ℕ) (start : Place) where
  -- so many notes were told so far
  abbrev pub HasNotes : Place → ℕ → Notes → Type 0
  HasNotes here i notes = HasKept (TellsNote history) count start here i (λ held. AreBefore held notes)

  pub notes_begin : (notes : Notes) → AreBefore [] notes → HasNotes start 0 notes
  notes_begin notes none = kept_none (TellsNote history) count start (λ held. AreBefore held notes) none

  pub notes_go : (here next : Place) (i : ℕ) (old new : Notes) → HasNotes here i old → i < count →
      ((before : List Note) → AreBefore before old → NotesOn history before here next new (Ok (tt {0}))) → HasNotes next (i + 1) new
  notes_go here next i old new had less told =
      kept_more (TellsNote history) count start here next i (λ held. AreBefore held old) had (tt {0}) (λ before (done : Unit {0}) note. AreBefore (before ++ note ∷ []) new) (λ held. AreBefore held new) less
      (λ before at kept. told before kept) (λ before note at kept one. one)

  pub notes_stop : (here next final : Place) (i : ℕ) (old new : Notes) (stop : Stop) → HasNotes here i old → i < count →
      ((before : List Note) → AreBefore before old → NotesOn history before here next new (Err stop)) → TellsNotes history count start final (Err stop)
  notes_stop here next final i old new stop had less told =
      kept_stop (TellsNote history) count start here next i (λ held. AreBefore held old) had (λ before (done : Unit {0}) note. AreBefore (before ++ note ∷ []) new)
      (λ (done : Unit {0}) notes. Unit {0}) final stop less (λ before at kept. told before kept)

  pub notes_all : (here : Place) (i : ℕ) (notes : Notes) → HasNotes here i notes → count ≤ i → TellsNotes history count start here (Ok (tt {0}))
  notes_all here i notes had all = kept_all (TellsNote history) count start here here i (λ held. AreBefore held notes) had (tt {0}) (λ (done : Unit {0}) notes. Unit {0}) all (λ held at kept. tt {0})

-- ---- one note

free_of : (x : ℕ) (before : List Note) → All (λ used. used ≡ x → ⊥) (map (λ (n : Note). n.board) before) → All (λ (o : Note). o.board ≡ x → ⊥) before
free_of x [] all = All-nil (λ (o : Note). o.board ≡ x → ⊥)
free_of x (n ∷ before) all =
    All-cons (λ (o : Note). o.board ≡ x → ⊥) n before (All-head (λ used. used ≡ x → ⊥) n.board (map (λ (n : Note). n.board) before) all)
    (free_of x before (All-tail (λ used. used ≡ x → ⊥) n.board (map (λ (n : Note). n.board) before) all))

pub note_tells : (history : List Entry) (before : List Note) (said : Note) (notes : Notes) (boards : List ℕ) (b : Bool) → boards ≡ notes.boards.items → AreBefore before notes →
    1 ≤ said.board → said.board ≤ BOARDS → said.stop ≤ largest_id → notes.entry ≤ said.entry → said.entry ≤ length history → Tells (All (λ used. used ≡ said.board → ⊥) boards) b → Tells (IsNextNote history before said) b
note_tells history before said notes boards true same kept some few stop order within free = record {
  is_true = record { some_board = some; few_boards = few; stop = stop; entry = within };
  once = free_of said.board before (subst (λ xs. All (λ used. used ≡ said.board → ⊥) xs) (same ∙ kept.boards) free);
  in_order = subst (λ (n : ℕ). n ≤ said.entry) kept.entry order;
}
note_tells history before said notes boards false same kept some few stop order within free = λ next.
    free (subst (λ xs. All (λ used. used ≡ said.board → ⊥) xs) (sym (same ∙ kept.boards)) (All-map (λ used. used ≡ said.board → ⊥) (λ (n : Note). n.board) before next.once))

pub note_kept : (before : List Note) (said : Note) (old new : Notes) → AreBefore before old → new.boards.items ≡ old.boards.items ++ said.board ∷ [] → new.entry ≡ said.entry → AreBefore (before ++ said ∷ []) new
note_kept before said old new kept boards entry = record {
  boards = boards ∙ (ap (λ xs. xs ++ said.board ∷ []) kept.boards ∙ sym (map-append (λ (n : Note). n.board) before (said ∷ [])));
  entry = entry ∙ sym (fold-append (λ last (note : Note). note.entry) 0 before (said ∷ []));
}
