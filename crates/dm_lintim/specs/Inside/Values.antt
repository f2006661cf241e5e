-- What is left of a record's cells once they are read: under each column the first number, and the first kind.
use Rattle.std.specs.Prelude.{ℕ, ◌≡◌, ◌≤◌, Bool, true, false, List, Option, Some, None, IsSome, unwrap_or, slice_index_or}
use Rattle.std.specs.List.{list_any}
use Rattle.dm_base.specs.Numbers.{milli_value, whole_value}
use Rattle.dm_lintim.specs.declared.columns.Column.{Column}
use Rattle.dm_lintim.specs.declared.columns.Column.TheVariants as col
use Rattle.dm_lintim.specs.Columns.{column_number, has_column, is_column, same_column}
use Rattle.dm_lintim.specs.Files.{IsNoWord, TakesField, Use, largest_of, passed_over, text_under, thousandths, use_of, whole, word}

-- the number that a text stands for under a column; a column that holds no number has 0
abbrev pub number_by : Use → List ℕ → ℕ
number_by whole text = whole_value text
number_by thousandths text = milli_value text
number_by word text = 0
number_by passed_over text = 0

abbrev pub number_of : Column → List ℕ → ℕ
number_of column text = number_by (use_of column) text

abbrev pub IsNumberUse : Use → Type 0
IsNumberUse whole = Unit {0}
IsNumberUse thousandths = Unit {0}
IsNumberUse word = ⊥
IsNumberUse passed_over = ⊥

abbrev pub HoldsNumber : Column → Type 0
HoldsNumber column = IsNumberUse (use_of column)

-- how many units of a column a number of digits counts
abbrev pub units_by : Use → ℕ
units_by whole = 1
units_by thousandths = 1000
units_by word = 1
units_by passed_over = 1

abbrev pub units_of : Column → ℕ
units_of column = units_by (use_of column)

-- the column holds numbers, and takes the text for this number
pub record IsNumberUnder (column : Column) (text : List ℕ) (number : ℕ) : Type 0 where
  pub holds : HoldsNumber column
  pub takes : TakesField IsNoWord (Some column) text
  pub value : number ≡ number_of column text
  pub fits : number ≤ largest_of column

-- the number that was put under a column, if any
abbrev pub slot : List (Option ℕ) → Column → Option ℕ
slot numbers column = slice_index_or numbers (column_number column) None

-- the number under a column, 0 where none was put
abbrev pub number_in : List (Option ℕ) → Column → ℕ
number_in numbers column = unwrap_or (slot numbers column) 0

-- no number is above its column's largest
abbrev pub AreWithin : List (Option ℕ) → Type 0
AreWithin numbers = (column : Column) → number_in numbers column ≤ largest_of column

-- a slot after a number is put under this column or another; the first stays
abbrev pub put_slot : Option ℕ → Bool → ℕ → Option ℕ
put_slot (Some old) here number = Some old
put_slot None true number = Some number
put_slot None false number = None

abbrev pub first_kind : {K : Type 0} → Option K → K → Option K
first_kind (Some old) kind = Some old
first_kind None kind = Some kind

-- the same of the kind, of which the type word is known
abbrev pub PutsKind : {K : Type 0} → (K → List ℕ → Type 0) → Option K → Bool → List ℕ → Option K → Type 0
PutsKind Names (Some old) here text new = new ≡ Some old
PutsKind Names None false text new = new ≡ None
PutsKind Names None true text None = ⊥
PutsKind Names None true text (Some kind) = Names kind text

-- a cell under a column is put
pub record PutsCell {K : Type 0} (Names : K → List ℕ → Type 0) (column : Option Column) (text : List ℕ)
    (old : List (Option ℕ)) (old_kind : Option K) (new : List (Option ℕ)) (new_kind : Option K) : Type 0 where
  pub numbers : (c : Column) → HoldsNumber c → slot new c ≡ put_slot (slot old c) (is_column c column) (number_of c text)
  pub kind : PutsKind Names old_kind (is_column col.Kind column) text new_kind

-- the number under a column: what was put, or else what the cells that are left hold
abbrev pub number_from : Option ℕ → List (Option Column) → List (List ℕ) → Column → ℕ
number_from (Some number) columns fields column = number
number_from None columns fields column = number_of column (text_under columns fields column)

-- the kind was put, or its cell is the first of that column among those left
abbrev pub KindFrom : {K : Type 0} → (K → List ℕ → Type 0) → Option K → List (Option Column) → List (List ℕ) →
    List (Option Column) → List (List ℕ) → Type 0
KindFrom Names None left rest columns fields =
    (text_under left rest col.Kind ≡ text_under columns fields col.Kind) × (has_column left col.Kind ≡ has_column columns col.Kind)
KindFrom Names (Some kind) left rest columns fields = Names kind (text_under columns fields col.Kind)

-- with the cells that are left, all of the record's are put
pub record LeadsTo {K : Type 0} (Names : K → List ℕ → Type 0) (numbers : List (Option ℕ)) (kind : Option K)
    (left : List (Option Column)) (rest : List (List ℕ)) (columns : List (Option Column)) (fields : List (List ℕ)) : Type 0 where
  pub numbers_from : (c : Column) → HoldsNumber c → number_from (slot numbers c) left rest c ≡ number_of c (text_under columns fields c)
  pub kind_from : KindFrom Names kind left rest columns fields

-- the kind is that of the record, or the file has no types
abbrev pub IsKindOf : {K : Type 0} → (K → List ℕ → Type 0) → Option K → List (Option Column) → List (List ℕ) → Type 0
IsKindOf Names None columns fields = has_column columns col.Kind ≡ false
IsKindOf Names (Some kind) columns fields = Names kind (text_under columns fields col.Kind)

-- the values of a record
pub record AreValuesOf {K : Type 0} (Names : K → List ℕ → Type 0) (numbers : List (Option ℕ)) (kind : Option K)
    (columns : List (Option Column)) (fields : List (List ℕ)) : Type 0 where
  pub numbers_are : (c : Column) → HoldsNumber c → number_in numbers c ≡ number_of c (text_under columns fields c)
  pub kind_is : IsKindOf Names kind columns fields

-- where a file must have types, a kind was put
abbrev pub HasKind : {K : Type 0} → List Column → Option K → Type 0
HasKind required kind = list_any (same_column col.Kind) required ≡ true → IsSome kind
