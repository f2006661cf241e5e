-- The values of a record, cell by cell.
use Rattle.std.proofs.Common.{◌≡◌, ◌≤◌, ◌<◌, ℕ, Bool, true, false, List, [], ◌∷◌, ◌+◌, suc, add-one, drop, drop-cons, length, set, get_or, Option, Some, None, refl, sym, ap, ◌∙◌, inl, inr, arith, unwrap_or, get_or-set_same, get_or-set_other}
use Rattle.std.specs.List.{list_any}
use Rattle.std.specs.Prelude.{is_some}
use Rattle.std.proofs.Math.ListN.{drop_of_length-le}
use Rattle.std.proofs.lemmas.Bool.{cases_Bool, true≢false, eqb-false}
use Rattle.dm_lintim.specs.declared.columns.Column.{Column}
use Rattle.dm_lintim.specs.declared.columns.Column.TheVariants as col
use Rattle.dm_lintim.specs.Columns.{HasAll, column_number, has_column, is_column, same_column}
use Rattle.dm_lintim.specs.Files.{text_under}
use Rattle.dm_lintim.specs.Inside.Values.{AreValuesOf, HasKind, HoldsNumber, IsKindOf, IsNumberUnder, KindFrom, LeadsTo, PutsCell, PutsKind, number_from, number_of, put_slot, slot}
use Rattle.dm_lintim.proofs.ColumnLemmas.{same_is}

put_other : (o : Option ℕ) (n : ℕ) → put_slot o false n ≡ o
put_other None n = refl
put_other (Some m) n = refl

pub none_there : (o : Option ℕ) → is_some o ≡ false → o ≡ None
none_there None e = refl
none_there (Some n) e = absurd (true≢false e)

-- a number is put under its column, and the other slots stay
pub slot_put : (old : List (Option ℕ)) (column c : Column) (number : ℕ) → slot old column ≡ None → column_number column < length old
    → slot (set old (column_number column) (Some number)) c ≡ put_slot (slot old c) (same_column c column) number
slot_put old column c number none below =
    elim (cases_Bool (same_column c column)) [
      | inl e ↦
          let same : c ≡ column = same_is c column e in
          let here : slot old c ≡ None = rw same none in
          let put : slot (set old (column_number column) (Some number)) c ≡ Some number = rw same (get_or-set_same old (column_number column) (Some number) None below) in
          rw (e, here) put
      | inr e ↦
          rw e (get_or-set_other old (column_number column) (column_number c) (Some number) None (eqb-false (column_number c) (column_number column) e) ∙ sym (put_other (slot old c) number))
    ]

number_from_put : (o : Option ℕ) (k : Option Column) (ks : List (Option Column)) (f : List ℕ) (fs : List (List ℕ)) (c : Column)
    → number_from (put_slot o (is_column c k) (number_of c f)) ks fs c ≡ number_from o (k ∷ ks) (f ∷ fs) c
number_from_put (Some m) k ks f fs c = refl
number_from_put None k ks f fs c = elim (cases_Bool (is_column c k)) [ inl e ↦ rw e refl | inr e ↦ rw e refl ]

module _ {K : Type 0} (Names : K → List ℕ → Type 0) where
  kind_more : (cs : List (Option Column)) (fs : List (List ℕ)) (k : Option Column) (ks : List (Option Column)) (f : List ℕ) (rest : List (List ℕ)) (old new : Option K)
      → KindFrom Names old (k ∷ ks) (f ∷ rest) cs fs → PutsKind Names old (is_column col.Kind k) f new → KindFrom Names new ks rest cs fs
  kind_more cs fs k ks f rest (Some old) new from puts = rw puts from
  kind_more cs fs k ks f rest None None from puts =
      elim (cases_Bool (is_column col.Kind k)) [
        | inl e ↦ absurd (rw e at puts)
        | inr e ↦ rw e at from
      ]
  kind_more cs fs k ks f rest None (Some kind) from puts =
      elim (cases_Bool (is_column col.Kind k)) [
        | inl e ↦
            let named : Names kind f = rw e at puts in
            let here : f ≡ text_under cs fs col.Kind = rw e at from.0 in
            rw (sym here) named
        | inr e ↦ let none : Some kind ≡ None = rw e at puts in cc
      ]

  pub values_more : (cs : List (Option Column)) (fs : List (List ℕ)) (k : Option Column) (ks : List (Option Column)) (f : List ℕ) (rest : List (List ℕ))
      (old new : List (Option ℕ)) (old_kind new_kind : Option K)
      → LeadsTo Names old old_kind (k ∷ ks) (f ∷ rest) cs fs → PutsCell Names k f old old_kind new new_kind → LeadsTo Names new new_kind ks rest cs fs
  values_more cs fs k ks f rest old new old_kind new_kind leads puts = record {
    numbers_from = λ c h. ap (λ (o : Option ℕ). number_from o ks rest c) (puts.numbers c h) ∙ number_from_put (slot old c) k ks f rest c ∙ leads.numbers_from c h;
    kind_from = kind_more cs fs k ks f rest old_kind new_kind leads.kind_from puts.kind;
  }

  -- the same at a place of the record
  pub values_step : (cs : List (Option Column)) (fs : List (List ℕ)) (i : ℕ) (f : List ℕ) (old new : List (Option ℕ)) (old_kind new_kind : Option K)
      → i < length cs → length fs ≡ length cs → f ≡ get_or fs i [] → LeadsTo Names old old_kind (drop i cs) (drop i fs) cs fs
      → PutsCell Names (get_or cs i None) f old old_kind new new_kind → LeadsTo Names new new_kind (drop (i + 1) cs) (drop (i + 1) fs) cs fs
  values_step cs fs i f old new old_kind new_kind below same is leads puts =
      let among : i < length fs = omega arith in
      let left = rw (drop-cons cs i None below, drop-cons fs i [] among) at leads in
      let put = rw is at puts in
      rw (add-one) (values_more cs fs (get_or cs i None) (drop (suc i) cs) (get_or fs i []) (drop (suc i) fs) old new old_kind new_kind left put)

  number_at_end : (o : Option ℕ) (c : Column) → HoldsNumber c → unwrap_or o 0 ≡ number_from o [] [] c
  number_at_end (Some n) c h = refl
  number_at_end None col.Id h = refl
  number_at_end None col.PeriodicId h = refl
  number_at_end None col.Kind h = refl
  number_at_end None col.Time h = refl
  number_at_end None col.Weight h = refl
  number_at_end None col.Stop h = refl
  number_at_end None col.Tail h = refl
  number_at_end None col.Head h = refl
  number_at_end None col.Lower h = refl
  number_at_end None col.Upper h = refl
  number_at_end None col.Delay h = refl

  kind_at_end : (kind : Option K) (cs : List (Option Column)) (fs : List (List ℕ)) → KindFrom Names kind [] [] cs fs → IsKindOf Names kind cs fs
  kind_at_end None cs fs from = sym from.1
  kind_at_end (Some k) cs fs from = from

  pub values_all : (numbers : List (Option ℕ)) (kind : Option K) (cs : List (Option Column)) (fs : List (List ℕ)) → LeadsTo Names numbers kind [] [] cs fs
      → AreValuesOf Names numbers kind cs fs
  values_all numbers kind cs fs leads = record {
    numbers_are = λ c h. number_at_end (slot numbers c) c h ∙ leads.numbers_from c h;
    kind_is = kind_at_end kind cs fs leads.kind_from;
  }

  pub values_end : (cs : List (Option Column)) (fs : List (List ℕ)) (i : ℕ) (numbers : List (Option ℕ)) (kind : Option K)
      → length cs ≤ i → length fs ≡ length cs → LeadsTo Names numbers kind (drop i cs) (drop i fs) cs fs → AreValuesOf Names numbers kind cs fs
  values_end cs fs i numbers kind past same leads =
      let beyond : length fs ≤ i = omega arith in
      values_all numbers kind cs fs (rw (drop_of_length-le cs past, drop_of_length-le fs beyond) at leads)

  types_required : (cs : List (Option Column)) (required : List Column) → HasAll cs required → list_any (same_column col.Kind) required ≡ true → has_column cs col.Kind ≡ true
  types_required cs [] all any = absurd (true≢false (sym any))
  types_required cs (c ∷ rest) all any =
      elim (cases_Bool (same_column col.Kind c)) [
        | inl e ↦ rw (same_is col.Kind c e) all.0
        | inr e ↦ types_required cs rest all.1 (rw e at any)
      ]

  -- where a file must have types, a record has its kind
  pub has_kind : (cs : List (Option Column)) (fs : List (List ℕ)) (required : List Column) (kind : Option K) → HasAll cs required → IsKindOf Names kind cs fs → HasKind required kind
  has_kind cs fs required None all is any = absurd (true≢false (sym (types_required cs required all any) ∙ is))
  has_kind cs fs required (Some k) all is any = refl

put_alike : (o : Option ℕ) (here : Bool) (n m : ℕ) → (here ≡ true → n ≡ m) → put_slot o here n ≡ put_slot o here m
put_alike (Some k) here n m same = refl
put_alike None true n m same = ap Some (same refl)
put_alike None false n m same = refl

no_kind_column : (column : Column) → HoldsNumber column → same_column col.Kind column ≡ false
no_kind_column col.Id h = refl
no_kind_column col.PeriodicId h = refl
no_kind_column col.Kind h = absurd h
no_kind_column col.Time h = refl
no_kind_column col.Weight h = refl
no_kind_column col.Stop h = refl
no_kind_column col.Tail h = refl
no_kind_column col.Head h = refl
no_kind_column col.Lower h = refl
no_kind_column col.Upper h = refl
no_kind_column col.Delay h = refl

kind_stays : {K : Type 0} (Names : K → List ℕ → Type 0) (old : Option K) (text : List ℕ) → PutsKind Names old false text old
kind_stays Names None text = refl
kind_stays Names (Some k) text = refl

-- the number of a cell under its column is put
pub number_puts : {K : Type 0} (Names : K → List ℕ → Type 0) (column : Column) (text : List ℕ) (number : ℕ) (old new : List (Option ℕ)) (old_kind new_kind : Option K)
    → IsNumberUnder column text number → ((c : Column) → slot new c ≡ put_slot (slot old c) (same_column c column) number) → new_kind ≡ old_kind
    → PutsCell Names (Some column) text old old_kind new new_kind
number_puts Names column text number old new old_kind new_kind under put stays = record {
  numbers = λ c h. put c ∙ put_alike (slot old c) (same_column c column) number (number_of c text)
      (λ same. under.value ∙ ap (λ k. number_of k text) (sym (same_is c column same)));
  kind = rw (no_kind_column column under.holds, stays) (kind_stays Names old_kind text);
}
