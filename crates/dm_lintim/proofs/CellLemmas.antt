-- The fields of a record, by place and under columns.
use Rattle.std.proofs.Common.{◌≡◌, ◌⊎◌, ◌<◌, ℕ, zero, suc, true, false, List, [], ◌∷◌, drop, drop-cons, length, map, get_or, Option, Some, None, refl, ap, inl, inr, arith}
use Rattle.std.proofs.lemmas.Bool.{cases_Bool}
use Rattle.csv.specs.Records.{field_at}
use Rattle.dm_lintim.specs.declared.columns.Column.{Column}
use Rattle.dm_lintim.specs.Columns.{has_column, is_column}
use Rattle.dm_lintim.specs.Files.{IsGood, RefusesField, RefusesFirst, TakesField, text_under}
use Rattle.dm_lintim.specs.declared.fault.FileKind.{FileKind}
use Rattle.dm_lintim.specs.Pieces.{cell_of}
use Rattle.dm_lintim.proofs.ColumnLemmas.{same_is}

value-or : List ℕ → Option (List ℕ) → List ℕ
value-or d None = d
value-or d (Some x) = x

some-same : (x y : List ℕ) → Some x ≡ Some y → x ≡ y
unfolding value-or
some-same x y e = ap (value-or x) e

pub cell_at_some : (fields : List (List ℕ)) (i : ℕ) (x : List ℕ) → Some x ≡ field_at fields i → cell_of x ≡ get_or (map cell_of fields) i []
unfolding field_at
cell_at_some [] i x e = cc e
cell_at_some (f ∷ fs) zero x e = ap cell_of (some-same x f e)
cell_at_some (f ∷ fs) (suc i) x e = cell_at_some fs i x e

pub cell_at_none : (fields : List (List ℕ)) (i : ℕ) → None ≡ field_at fields i → [] ≡ get_or (map cell_of fields) i []
unfolding field_at
cell_at_none [] i e = refl
cell_at_none (f ∷ fs) zero e = cc e
cell_at_none (f ∷ fs) (suc i) e = cell_at_none fs i e

-- the field under a column of a good record is one that the column takes, or there is none
takes_at : (K : List ℕ → Type 0) (c : Column) (k : Option Column) (f : List ℕ) → is_column c k ≡ true → TakesField K k f → TakesField K (Some c) f
takes_at K c None f e t = cc e
takes_at K c (Some d) f e t = rw (same_is c d e) t

pub good_under : (K : List ℕ → Type 0) (cs : List (Option Column)) (fs : List (List ℕ)) (c : Column) → IsGood K cs fs
    → ((has_column cs c ≡ false) × (text_under cs fs c ≡ [])) ⊎ TakesField K (Some c) (text_under cs fs c)
good_under K [] [] c good = inl (refl, refl)
good_under K [] (f ∷ fs) c good = absurd good
good_under K (k ∷ ks) [] c good = absurd good
good_under K (k ∷ ks) (f ∷ fs) c good =
    elim (cases_Bool (is_column c k)) [
      | inl here ↦ rw here (inr (takes_at K c k f here good.0))
      | inr other ↦ rw other (good_under K ks fs c good.1)
    ]

-- a field that its column refuses, at a place before which none is
pub refuses_at : (K : List ℕ → Type 0) (cs : List (Option Column)) (fs : List (List ℕ)) (i : ℕ) (f : List ℕ) (why : FileKind) → i < length cs → length fs ≡ length cs
    → f ≡ get_or fs i [] → RefusesField K (get_or cs i None) f why → RefusesFirst K (drop i cs) (drop i fs) why
refuses_at K cs fs i f why below same is refuses =
    let among : i < length fs = omega arith in
    let refused = rw is at refuses in
    rw (drop-cons cs i None below, drop-cons fs i [] among) (inl refused)
