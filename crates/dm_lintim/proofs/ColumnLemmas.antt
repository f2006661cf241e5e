-- Columns, and the words that name them.
use Rattle.std.proofs.Common.{◌≡◌, ◌<◌, ◌+◌, ℕ, zero, suc, true, false, List, [], ◌∷◌, ◌++◌, length, drop, get_or, Option, Some, None, refl, sym, ap, ◌∙◌, inl, inr, arith, append_assoc, length-append}
use Rattle.std.proofs.lemmas.List.{drop_more}
use Rattle.std.proofs.lemmas.Bool.{or_parts, ne_eqb, eqb-true, eq-eqb, or_cases, both_ways, false≢true}
use Rattle.dm_lintim.specs.declared.columns.Column.{Column}
use Rattle.dm_lintim.specs.declared.columns.Column.TheVariants as col
use Rattle.dm_lintim.specs.Columns.{AreColumns, FirstMissing, HasAll, IsNew, IsOnce, NameAll, Names, column_number, has_column, is_column, is_known, same_column}
use Rattle.dm_lintim.specs.Inside.Words.{AddsColumn, HasRead}

column_at : ℕ → Column
column_at n =
    get_or (col.Id ∷ col.PeriodicId ∷ col.Kind ∷ col.Time ∷ col.Weight ∷ col.Stop ∷ col.Tail ∷ col.Head ∷ col.Lower ∷ col.Upper ∷ col.Delay ∷ []) n col.Id

at_number : (c : Column) → column_at (column_number c) ≡ c
unfolding column_at
at_number col.Id = refl
at_number col.PeriodicId = refl
at_number col.Kind = refl
at_number col.Time = refl
at_number col.Weight = refl
at_number col.Stop = refl
at_number col.Tail = refl
at_number col.Head = refl
at_number col.Lower = refl
at_number col.Upper = refl
at_number col.Delay = refl

pub same_is : (a b : Column) → same_column a b ≡ true → a ≡ b
same_is a b e = sym (at_number a) ∙ ap column_at (eqb-true (column_number a) (column_number b) e) ∙ at_number b

pub known_place : (known : List Column) (c : Column) → is_known known c ≡ true → (i : ℕ) × (i < length known) × ((d : Column) → get_or known i d ≡ c)
known_place [] c e = absurd (false≢true e)
known_place (k ∷ ks) c e =
    elim (or_cases (same_column c k) (is_known ks c) e) [
      | inl here ↦ (zero, omega arith, λ d. sym (same_is c k here))
      | inr there ↦ let (i, below, at) = known_place ks c there in (suc i, omega (arith, below), at)
    ]

-- one more word and its column
names_push : (known : List Column) (ws : List (List ℕ)) (cs : List (Option Column)) (w : List ℕ) (c : Option Column)
    → NameAll known ws cs → Names known w c → NameAll known (ws ++ w ∷ []) (cs ++ c ∷ [])
names_push known [] [] w c all one = (one, tt)
names_push known [] (d ∷ cs) w c all one = absurd all
names_push known (v ∷ ws) [] w c all one = absurd all
names_push known (v ∷ ws) (d ∷ cs) w c all one = (all.0, names_push known ws cs w c all.1 one)

has-push : (cs : List (Option Column)) (c : Option Column) (d : Column) → has_column cs d ≡ false → is_column d c ≡ false → has_column (cs ++ c ∷ []) d ≡ false
has-push [] c d none other = rw other refl
has-push (e ∷ cs) c d none other =
    let (here, there) = or_parts (is_column d e) (has_column cs d) none in
    rw here (has-push cs c d there other)

pub same_sym : (a b : Column) → same_column a b ≡ false → same_column b a ≡ false
same_sym a b e = ne_eqb (column_number b) (column_number a) (λ same. both_ways (same_column a b) e (eq-eqb (column_number a) (column_number b) (sym same)))

-- a column that is new after another is another
new_apart : (d : Column) (cs : List (Option Column)) (c : Option Column) → IsNew (Some d ∷ cs) c → is_column d c ≡ false
new_apart d cs None new = refl
new_apart d cs (Some c) new = same_sym c d (or_parts (same_column c d) (has_column cs c) new).0

new_after : (d : Option Column) (cs : List (Option Column)) (c : Option Column) → IsNew (d ∷ cs) c → IsNew cs c
new_after d cs None new = tt
new_after d cs (Some c) new = (or_parts (is_column c d) (has_column cs c) new).1

new-push : (cs : List (Option Column)) (c d : Option Column) → IsNew cs d → IsNew (d ∷ cs) c → IsNew (cs ++ c ∷ []) d
new-push cs c None old new = tt
new-push cs c (Some d) old new = has-push cs c d old (new_apart d cs c new)

once_push : (cs : List (Option Column)) (c : Option Column) → IsOnce cs → IsNew cs c → IsOnce (cs ++ c ∷ [])
once_push [] c once new = (none c, tt)
  where
    none : (c : Option Column) → IsNew [] c
    none None = tt
    none (Some c) = refl
once_push (d ∷ cs) c once new = (new-push cs c d once.0 new, once_push cs c once.1 (new_after d cs c new))

pub columns_push : (known : List Column) (ws : List (List ℕ)) (cs new : List (Option Column)) (w : List ℕ)
    → AreColumns known ws cs → AddsColumn known cs w new → AreColumns known (ws ++ w ∷ []) new
columns_push known ws cs new w good (c, named, is_new, room, is) =
    rw is (record {
      names = names_push known ws cs w c good.names named;
      once = once_push cs c good.once is_new;
      few = omega (arith, length-append cs (c ∷ []));
    })

pub read_more : (known : List Column) (words left : List (List ℕ)) (w : List ℕ) (cs new : List (Option Column))
    → HasRead known words (w ∷ left) cs → AddsColumn known cs w new → HasRead known words left new
read_more known words left w cs new read adds = record {
  before = read.before ++ w ∷ [];
  words_are = read.words_are ∙ sym (append_assoc read.before (w ∷ []) left);
  good = columns_push known read.before cs new w read.good adds;
}

-- one more of the required columns is there
pub missing_more : (cs : List (Option Column)) (required : List Column) (i : ℕ) (d : Column) → i < length required → has_column cs (get_or required i d) ≡ true
    → (HasAll cs (drop i required) → HasAll cs required) × ((c : Column) → FirstMissing cs (drop i required) c → FirstMissing cs required c)
    → (HasAll cs (drop (i + 1) required) → HasAll cs required) × ((c : Column) → FirstMissing cs (drop (i + 1) required) c → FirstMissing cs required c)
missing_more cs required i d below has so_far =
    let so = rw (drop_more required i d below) at so_far in
    ((λ all. so.0 (has, all)), (λ c first. so.1 c (inr (has, first))))
