-- Notes stay true as new ones are put behind them.
use Rattle.std.proofs.Common.{Option, ◌≡◌, ℕ, zero, suc, ◌+◌, ◌-◌, ◌<◌, ◌≤◌, Bool, true, false, eqb, List, [], ◌∷◌, ◌++◌, length, map, get_or, Some, None, refl, sym, ap, subst, ◌∙◌, inl, inr, arith, eq-eqb, slice_get}
use Rattle.std.specs.Prelude.{All, ◌||◌}
use Rattle.std.specs.List.{list_any}
use Rattle.std.specs.List.Sorted.{IsStrictlyIncreasing}
use Rattle.std.proofs.lemmas.Bool.{cases_lt}
use Rattle.std.proofs.lemmas.List.{length-map, get_or-map}
use Rattle.std.proofs.lemmas.List.Elements.{All-append}
use Rattle.std.proofs.lemmas.Option.{slice_get_within, get_or_from_slice_get}
use Rattle.dm_base.specs.declared.limits.TheConstants.{BOARDS}
use Rattle.dm_network.proofs.Keys.{rises_between}
use Rattle.dm_cert.specs.declared.notes.Note.{Note}
use Rattle.dm_cert.specs.Runs.{IsTrueNote, AreTrueNotes}
use Rattle.dm_network.specs.Net.{Net}
use Rattle.dm_publish.specs.Publishing.{has_note, Publishes}
use Rattle.dm_publish.specs.Value.{Published}

get_front : (xs ys : List Note) (i : ℕ) → i < length xs → slice_get (xs ++ ys) i ≡ slice_get xs i
get_front [] ys i lt = absurd (omega arith)
get_front (x ∷ xs) ys zero lt = refl
get_front (x ∷ xs) ys (suc i) lt = get_front xs ys i (omega arith)

get_back : (xs ys : List Note) (i : ℕ) → length xs ≤ i → slice_get (xs ++ ys) i ≡ slice_get ys (i - length xs)
get_back [] ys i le = let e : i ≡ i - 0 = omega arith in ap (slice_get ys) e
get_back (x ∷ xs) ys zero le = absurd (omega arith)
get_back (x ∷ xs) ys (suc i) le = let e : i - length xs ≡ suc i - suc (length xs) = omega arith in get_back xs ys i (omega arith) ∙ ap (slice_get ys) e

-- a note that names the board at a place is found
has : (notes : List Note) (at i : ℕ) (note : Note) → slice_get notes i ≡ Some note → note.board ≡ at + 1 → has_note notes at ≡ true
has [] at i note stands is = let e : None ≡ Some note = stands in absurd (let f = e in cc)
has (other ∷ notes) at zero note stands is =
    let same : other ≡ note = (let e : Some other ≡ Some note = stands in cc) in
    let found : eqb (at + 1) other.board ≡ true = eq-eqb (at + 1) other.board (sym (ap (λ (n : Note). n.board) same ∙ is)) in
    ap (λ (b : Bool). b || list_any (λ (n : Note). eqb (at + 1) n.board) notes) found
has (other ∷ notes) at (suc i) note stands is =
    let later = has notes at i note stands is in
    elim (eqb (at + 1) other.board) as (λ (b : Bool). (b || list_any (λ (n : Note). eqb (at + 1) n.board) notes) ≡ true) [ true ↦ refl | false ↦ later ]

-- a new note: true at the entry of its call, of a board that had none
pub record IsNew (entry : ℕ) (noted : List Note) (note : Note) : Type 0 where
  pub is_true : IsTrueNote entry note
  pub at_entry : note.entry ≡ entry
  pub at : ℕ
  pub named : note.board ≡ at + 1
  pub had_none : has_note noted at ≡ false

module _ (entries entry : ℕ) (noted fresh : List Note) (were : AreTrueNotes entries noted) (later : entries ≤ entry)
    (new : All (IsNew entry noted) fresh) (rising : IsStrictlyIncreasing (map (λ (n : Note). n.board) fresh)) (few : length (noted ++ fresh) ≤ BOARDS) where
  new_at : (i : ℕ) (note : Note) → slice_get fresh i ≡ Some note → IsNew entry noted note
  new_at i note stands =
      let within = slice_get_within fresh i note stands in
      subst (IsNew entry noted) (get_or_from_slice_get fresh i note note stands) (new i note within)

  -- none of the old ones names its board
  apart : (i j : ℕ) (one other : Note) → slice_get noted i ≡ Some one → slice_get fresh j ≡ Some other → one.board ≡ other.board → ⊥
  apart i j one other at_i at_j same =
      let n = new_at j other at_j in
      let found = has noted n.at i one at_i (same ∙ n.named) in
      let both : true ≡ false = sym found ∙ n.had_none in
      cc

  board_at : (j : ℕ) (note : Note) → slice_get fresh j ≡ Some note → get_or (map (λ (n : Note). n.board) fresh) j 0 ≡ note.board
  board_at j note stands =
      let within = slice_get_within fresh j note stands in
      get_or-map (λ (n : Note). n.board) fresh j note 0 within ∙ ap (λ (n : Note). n.board) (get_or_from_slice_get fresh j note note stands)

  below : (i j : ℕ) (one other : Note) → slice_get fresh i ≡ Some one → slice_get fresh j ≡ Some other → i < j → one.board < other.board
  below i j one other at_i at_j lt =
      let within = slice_get_within fresh j other at_j in
      let l = length-map fresh (λ (n : Note). n.board) in
      let r = rises_between (map (λ (n : Note). n.board) fresh) rising i j lt (omega arith) in
      let a = board_at i one at_i in
      let b = board_at j other at_j in
      omega arith

  one_place : (i j : ℕ) (one other : Note) → slice_get fresh i ≡ Some one → slice_get fresh j ≡ Some other → one.board ≡ other.board → i ≡ j
  one_place i j one other at_i at_j same =
      elim (cases_lt i j) [
        | inl lt ↦ let h = below i j one other at_i at_j lt in absurd (omega arith)
        | inr le ↦ elim (cases_lt j i) [
          | inl lt ↦ let h = below j i other one at_j at_i lt in absurd (omega arith)
          | inr ge ↦ omega arith
        ]
      ]

  once_of : (i j : ℕ) (one other : Note) → slice_get (noted ++ fresh) i ≡ Some one → slice_get (noted ++ fresh) j ≡ Some other → one.board ≡ other.board → i ≡ j
  once_of i j one other at_i at_j same =
      elim (cases_lt i (length noted)) [
        | inl i_old ↦ elim (cases_lt j (length noted)) [
          | inl j_old ↦ were.once i j one other (sym (get_front noted fresh i i_old) ∙ at_i) (sym (get_front noted fresh j j_old) ∙ at_j) same
          | inr j_new ↦ absurd (apart i (j - length noted) one other (sym (get_front noted fresh i i_old) ∙ at_i) (sym (get_back noted fresh j j_new) ∙ at_j) same)
        ]
        | inr i_new ↦ elim (cases_lt j (length noted)) [
          | inl j_old ↦ absurd (apart j (i - length noted) other one (sym (get_front noted fresh j j_old) ∙ at_j) (sym (get_back noted fresh i i_new) ∙ at_i) (sym same))
          | inr j_new ↦
              let e = one_place (i - length noted) (j - length noted) one other (sym (get_back noted fresh i i_new) ∙ at_i) (sym (get_back noted fresh j j_new) ∙ at_j) same in
              omega arith
        ]
      ]

  old_at : (i : ℕ) (note : Note) → slice_get noted i ≡ Some note → IsTrueNote entries note
  old_at i note stands =
      let within = slice_get_within noted i note stands in
      subst (IsTrueNote entries) (get_or_from_slice_get noted i note note stands) (were.each i note within)

  in_order_of : (i j : ℕ) (one other : Note) → slice_get (noted ++ fresh) i ≡ Some one → slice_get (noted ++ fresh) j ≡ Some other → i ≤ j → one.entry ≤ other.entry
  in_order_of i j one other at_i at_j le =
      elim (cases_lt j (length noted)) [
        | inl j_old ↦
            let i_old : i < length noted = omega arith in
            were.in_order i j one other (sym (get_front noted fresh i i_old) ∙ at_i) (sym (get_front noted fresh j j_old) ∙ at_j) le
        | inr j_new ↦
            let n = (new_at (j - length noted) other (sym (get_back noted fresh j j_new) ∙ at_j)).at_entry in
            elim (cases_lt i (length noted)) [
              | inl i_old ↦ let h = (old_at i one (sym (get_front noted fresh i i_old) ∙ at_i)).entry in omega arith
              | inr i_new ↦ let m = (new_at (i - length noted) one (sym (get_back noted fresh i i_new) ∙ at_i)).at_entry in omega arith
            ]
      ]

  true_old : All (IsTrueNote entry) noted
  true_old k d lt =
      let h = were.each k d lt in
      let e = h.entry in
      record { some_board = h.some_board; few_boards = h.few_boards; stop = h.stop; entry = omega arith }

  pub true_more : AreTrueNotes entry (noted ++ fresh)
  true_more =
      record {
        few = few;
        each = All-append (IsTrueNote entry) noted fresh true_old (λ k d lt. (new k d lt).is_true);
        once = once_of;
        in_order = in_order_of;
      }

-- what a list of boards is published on keeps its notes true
module _ {B : Type 0} (place : B → ℕ) (times : B → Option (ℕ → Option ℕ)) (flags : B → Option (ℕ → Option Bool)) (faults : B → ℕ) (is_sound : B → ℕ → Type 0)
    (net : Net) (last x : Published) (entry : ℕ) (old new : List B) (noted noted_now : List Note) (count : ℕ)
    (p : Publishes place times flags faults is_sound net last x entry old new noted noted_now count) (boards : length old ≤ BOARDS) (few : length noted_now ≤ BOARDS) where
  are_new : All (IsNew entry noted) p.fresh
  are_new k d lt =
      let h = p.dropped k d lt in
      let within = slice_get_within old h.at h.before h.stood in
      let named = h.named in
      let at_entry = h.at_entry in
      record {
        is_true = record { some_board = omega arith; few_boards = omega arith; stop = h.stop_fits; entry = omega arith };
        at_entry = h.at_entry;
        at = h.at;
        named = h.named;
        had_none = h.had_none;
      }

  pub notes_stay_true : (entries : ℕ) → entries ≤ entry → AreTrueNotes entries noted → AreTrueNotes entry noted_now
  notes_stay_true entries later were =
      subst (AreTrueNotes entry) (sym p.notes)
      (true_more entries entry noted p.fresh were later are_new p.in_order (subst (λ (ns : List Note). length ns ≤ BOARDS) p.notes few))
