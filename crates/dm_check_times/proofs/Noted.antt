-- Times that change, and which are noted as moved.
use Rattle.std.proofs.Common.{◌≡◌, ℕ, ◌<◌, ◌⊎◌, Bool, true, false, List, length, refl, sym, ap, subst, ◌∙◌, inl, inr, slice_index, length-set, get_or-set_same, get_or-set_other}
use Rattle.std.specs.Prelude.{slice_set, Contains}
use Rattle.std.proofs.lemmas.Bool.{cases_eq}
use Rattle.dm_marks.specs.Marked.{is_marked}
use Rattle.dm_marks.specs.Places.{PlaceSetValue, IsPlaceSet}
use Rattle.dm_check_times.specs.Noting.{AreAlikeBut, NotesMoves}

pub notes_none : (times : List ℕ) (flags : List Bool) → NotesMoves times times flags flags
notes_none times flags = record { as_many = refl; noted = λ kept alike. alike }

pub notes_then : (old mid new : List ℕ) (before between after : List Bool) → NotesMoves old mid before between → NotesMoves mid new between after → NotesMoves old new before after
notes_then old mid new before between after first second = record { as_many = second.as_many ∙ first.as_many; noted = λ kept alike. second.noted kept (first.noted kept alike) }

pub notes_one : (old new : List ℕ) (before after : List Bool) (event time : ℕ) → event < length before → new ≡ slice_set old event time → after ≡ slice_set before event true → NotesMoves old new before after
notes_one old new before after event time inside times flags = record {
  as_many = ap (λ (f : List Bool). length f) flags ∙ length-set before event true;
  noted = λ kept alike e unmarked. elim (cases_eq e event) [
    | inl here ↦
        let marked : is_marked after e ≡ true = subst (λ (k : ℕ). is_marked after k ≡ true) (sym here) (ap (λ (f : List Bool). is_marked f event) flags ∙ get_or-set_same before event true false inside) in
        let both : true ≡ false = sym marked ∙ unmarked in
        absurd cc
    | inr ne ↦
        alike e (sym (ap (λ (f : List Bool). is_marked f e) flags ∙ get_or-set_other before event e true false ne) ∙ unmarked)
        ∙ sym (ap (λ (x : List ℕ). slice_index x e) times ∙ get_or-set_other old event e time 0 ne)
  ];
}

pub alike_or_listed : (set : PlaceSetValue) (kept times : List ℕ) (e : ℕ) → IsPlaceSet set → AreAlikeBut set.flags kept times → Contains set.places e ⊎ (slice_index kept e ≡ slice_index times e)
alike_or_listed set kept times e is alike = by_flag (is_marked set.flags e) refl
  where
    by_flag : (flag : Bool) → is_marked set.flags e ≡ flag → Contains set.places e ⊎ (slice_index kept e ≡ slice_index times e)
    by_flag true marked = inl (is.each e marked)
    by_flag false unmarked = inr (alike e unmarked)
