-- Notes name different boards, so there are no more of them than boards.
use Rattle.std.proofs.Common.{◌≡◌, ℕ, suc, ◌+◌, ◌<◌, ◌≤◌, Bool, true, false, eqb, List, [], ◌∷◌, ◌++◌, length, map, refl, sym, ap, subst, ◌∙◌, arith, length-append, ne_eqb, eqb-true}
use Rattle.std.specs.Prelude.{All, ◌||◌, nat_eq}
use Rattle.std.specs.List.{list_any, IsDistinct}
use Rattle.std.specs.Cmp.{nat_eq_equiv}
use Rattle.std.proofs.lemmas.List.{map_push, length-map}
use Rattle.std.proofs.lemmas.List.Elements.{All-push}
use Rattle.std.proofs.lemmas.Map.Keys.{IsDistinct-push}
use Rattle.std.proofs.lemmas.Map.Steps.{length-le_from_distinct_below}
use Rattle.dm_cert.specs.declared.notes.Note.{Note}
use Rattle.dm_publish.specs.Publishing.{has_note}
use Rattle.dm_publish.specs.Inside.Turns.{AreNotesOf}

abbrev boards_of : List Note → List ℕ
boards_of notes = map (λ (note : Note). note.board) notes

any_of_boards : (notes : List Note) (q : ℕ) → list_any (eqb q) (boards_of notes) ≡ list_any (λ (note : Note). eqb q note.board) notes
any_of_boards [] q = refl
any_of_boards (note ∷ notes) q = ap (λ (b : Bool). eqb q note.board || b) (any_of_boards notes q)

-- a number that stands among the boards is at most the largest
among : (notes : List Note) (boards q : ℕ) → All (λ (note : Note). note.board ≤ boards) notes → list_any (eqb q) (boards_of notes) ≡ true → q ≤ boards
among [] boards q h any = let e : false ≡ true = any in absurd cc
among (note ∷ notes) boards q h any =
    elim (eqb q note.board) as (λ (b : Bool). eqb q note.board ≡ b → (b || list_any (eqb q) (boards_of notes)) ≡ true → q ≤ boards) [
      | true ↦ λ is _. let same = eqb-true q note.board is in let low = h 0 note (omega arith) in omega arith
      | false ↦ λ is later. among notes boards q (λ k d lt. h (suc k) d (omega arith)) later
    ] refl any

among_all : (notes : List Note) (boards q : ℕ) → All (λ (note : Note). note.board ≤ boards) notes → list_any (eqb q) (0 ∷ boards_of notes) ≡ true → q < boards + 1
among_all notes boards q h any =
    elim (eqb q 0) as (λ (b : Bool). eqb q 0 ≡ b → (b || list_any (eqb q) (boards_of notes)) ≡ true → q < boards + 1) [
      | true ↦ λ is _. let same = eqb-true q 0 is in omega arith
      | false ↦ λ is later. let le = among notes boards q h later in omega arith
    ] refl any

pub few_notes : (boards : ℕ) (notes : List Note) → AreNotesOf boards notes → length notes ≤ boards
few_notes boards notes h =
    let le = length-le_from_distinct_below (0 ∷ boards_of notes) (boards + 1) h.different (λ q any. among_all notes boards q h.within any) in
    let e = length-map notes (λ (note : Note). note.board) in
    omega arith

pub no_notes : (boards : ℕ) (notes : List Note) → notes ≡ [] → AreNotesOf boards notes
unfolding IsDistinct
no_notes boards notes empty = rw empty (record { different = (tt, tt); within = λ k d lt. absurd (omega arith) })

-- a note more, of a board that had none
pub one_more : (boards : ℕ) (notes : List Note) (at : ℕ) (note : Note) → AreNotesOf boards notes → at < boards → has_note notes at ≡ false →
    note.board ≡ at + 1 → AreNotesOf boards (notes ++ note ∷ [])
one_more boards notes at note h lt none is =
    let fresh : list_any (eqb (at + 1)) (0 ∷ boards_of notes) ≡ false =
    ap (λ (b : Bool). b || list_any (eqb (at + 1)) (boards_of notes)) (ne_eqb (at + 1) 0 (λ e. omega (arith, e))) ∙ (any_of_boards notes (at + 1) ∙ none) in
    let fresh_here : list_any (eqb note.board) (0 ∷ boards_of notes) ≡ false =
    subst (λ (n : ℕ). list_any (eqb n) (0 ∷ boards_of notes) ≡ false) (sym is) fresh in
    let pushed : IsDistinct nat_eq ((0 ∷ boards_of notes) ++ note.board ∷ []) = IsDistinct-push nat_eq_equiv (0 ∷ boards_of notes) note.board h.different fresh_here in
    record {
      different = rw (map_push (λ (note : Note). note.board) notes note) pushed;
      within = All-push (λ (note : Note). note.board ≤ boards) notes note h.within (omega arith);
    }

-- before it is put down there is room for it
pub has_room : (boards : ℕ) (notes : List Note) (at : ℕ) (note : Note) → AreNotesOf boards notes → at < boards → has_note notes at ≡ false →
    note.board ≡ at + 1 → length notes < boards
has_room boards notes at note h lt none is =
    let le = few_notes boards (notes ++ note ∷ []) (one_more boards notes at note h lt none is) in
    let e = length-append notes (note ∷ []) in
    omega arith
