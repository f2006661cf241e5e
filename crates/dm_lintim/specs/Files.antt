-- What the records of a file read as: rows, or the first fault.
use Rattle.std.specs.Prelude.{ℕ, ◌+◌, ◌≡◌, ◌≢◌, ◌<◌, ◌≤◌, ◌⊎◌, true, false, List, [], ◌∷◌, ◌++◌, length, map, codes, Option, Some, None, Result, Ok, Err, if◌then◌else◌}
use Rattle.std.specs.Char.{to_ascii_lowercase}
use Rattle.std.specs.List.{AllByRecursion}
use Rattle.dm_base.specs.Numbers.{IsDigits, IsMilliText, milli_value, whole_value}
use Rattle.dm_base.specs.declared.limits.TheConstants.{BOUND, DELAY, TIME, WEIGHT}
use Rattle.dm_base.specs.declared.rows.ActKind.{ActKind}
use Rattle.dm_base.specs.declared.rows.ActKind.TheVariants as act
use Rattle.dm_base.specs.declared.rows.ActRow.{ActRow}
use Rattle.dm_base.specs.declared.rows.DelayRow.{DelayRow}
use Rattle.dm_base.specs.declared.rows.EventKind.{EventKind}
use Rattle.dm_base.specs.declared.rows.EventKind.TheVariants as event
use Rattle.dm_base.specs.declared.rows.EventRow.{EventRow}
use Rattle.dm_lintim.specs.declared.columns.Column.{Column}
use Rattle.dm_lintim.specs.declared.columns.Column.TheVariants as col
use Rattle.dm_lintim.specs.declared.columns.TheConstants.{LARGEST_ID}
use Rattle.dm_lintim.specs.declared.fault.FileFault.{FileFault}
use Rattle.dm_lintim.specs.declared.fault.FileKind.{FileKind}
use Rattle.dm_lintim.specs.declared.fault.FileKind.TheVariants as kind
use Rattle.dm_lintim.specs.Columns.{is_column}
use Rattle.dm_lintim.specs.Pieces.{counted_records, has_byte_order_mark}

-- the type words of events and of activities; ASCII letters count in either case
abbrev pub event_word : EventKind → List ℕ
event_word event.Departure = codes "departure"
event_word event.Arrival = codes "arrival"

abbrev pub activity_word : ActKind → List ℕ
activity_word act.Drive = codes "drive"
activity_word act.Wait = codes "wait"
activity_word act.Turnaround = codes "turnaround"
activity_word act.Change = codes "change"
activity_word act.Headway = codes "headway"

abbrev pub IsWord : List ℕ → List ℕ → Type 0
IsWord word text = map to_ascii_lowercase text ≡ word

abbrev pub IsEventWord : List ℕ → Type 0
IsEventWord text = (k : EventKind) × IsWord (event_word k) text

abbrev pub IsActivityWord : List ℕ → Type 0
IsActivityWord text = (k : ActKind) × IsWord (activity_word k) text

-- the most that a column's number may be; the columns that hold no number are given 0
abbrev pub largest_of : Column → ℕ
largest_of col.Id = LARGEST_ID
largest_of col.PeriodicId = 0
largest_of col.Kind = 0
largest_of col.Time = TIME
largest_of col.Weight = WEIGHT
largest_of col.Stop = LARGEST_ID
largest_of col.Tail = LARGEST_ID
largest_of col.Head = LARGEST_ID
largest_of col.Lower = BOUND
largest_of col.Upper = 0
largest_of col.Delay = DELAY

-- a text has a number's form, and its value is not above the largest
abbrev pub IsNumber : Type 0 → ℕ → ℕ → Type 0
IsNumber IsForm value largest = IsForm × (value ≤ largest)

-- why it is none: another form is a bad number, and then a value above the largest is too large
abbrev pub RefusesNumber : Type 0 → ℕ → Column → FileKind → Type 0
RefusesNumber IsForm value column (kind.FieldCount n) = ⊥
RefusesNumber IsForm value column (kind.BadNumber named) = (named ≡ column) × (IsForm → ⊥)
RefusesNumber IsForm value column (kind.TooLarge named) = (named ≡ column) × IsForm × (largest_of column < value)
RefusesNumber IsForm value column kind.UnknownType = ⊥
RefusesNumber IsForm value column kind.ByteOrderMark = ⊥
RefusesNumber IsForm value column kind.OutOfMemory = ⊥

abbrev pub RefusesWord : Type 0 → FileKind → Type 0
RefusesWord IsKnown (kind.FieldCount n) = ⊥
RefusesWord IsKnown (kind.BadNumber named) = ⊥
RefusesWord IsKnown (kind.TooLarge named) = ⊥
RefusesWord IsKnown kind.UnknownType = IsKnown → ⊥
RefusesWord IsKnown kind.ByteOrderMark = ⊥
RefusesWord IsKnown kind.OutOfMemory = ⊥

-- what a column holds
pub data Use : Type 0 where
  whole : Use
  thousandths : Use
  word : Use
  passed_over : Use

abbrev pub use_of : Column → Use
use_of col.Id = whole
use_of col.PeriodicId = passed_over
use_of col.Kind = word
use_of col.Time = whole
use_of col.Weight = thousandths
use_of col.Stop = whole
use_of col.Tail = whole
use_of col.Head = whole
use_of col.Lower = whole
use_of col.Upper = passed_over
use_of col.Delay = whole

-- a field is one that its column takes; IsKnown says which type words the file has
abbrev pub TakesBy : Use → (List ℕ → Type 0) → Column → List ℕ → Type 0
TakesBy whole IsKnown column text = IsNumber (IsDigits text) (whole_value text) (largest_of column)
TakesBy thousandths IsKnown column text = IsNumber (IsMilliText text) (milli_value text) (largest_of column)
TakesBy word IsKnown column text = IsKnown text
TakesBy passed_over IsKnown column text = Unit {0}

abbrev pub TakesField : (List ℕ → Type 0) → Option Column → List ℕ → Type 0
TakesField IsKnown None text = Unit {0}
TakesField IsKnown (Some column) text = TakesBy (use_of column) IsKnown column text

-- why it is not
abbrev pub RefusesBy : Use → (List ℕ → Type 0) → Column → List ℕ → FileKind → Type 0
RefusesBy whole IsKnown column text why = RefusesNumber (IsDigits text) (whole_value text) column why
RefusesBy thousandths IsKnown column text why = RefusesNumber (IsMilliText text) (milli_value text) column why
RefusesBy word IsKnown column text why = RefusesWord (IsKnown text) why
RefusesBy passed_over IsKnown column text why = ⊥

abbrev pub RefusesField : (List ℕ → Type 0) → Option Column → List ℕ → FileKind → Type 0
RefusesField IsKnown None text why = ⊥
RefusesField IsKnown (Some column) text why = RefusesBy (use_of column) IsKnown column text why

-- a record has a field for each column, each one that its column takes
abbrev pub IsGood : (List ℕ → Type 0) → List (Option Column) → List (List ℕ) → Type 0
IsGood IsKnown [] [] = Unit {0}
IsGood IsKnown [] (f ∷ fs) = ⊥
IsGood IsKnown (c ∷ cs) [] = ⊥
IsGood IsKnown (c ∷ cs) (f ∷ fs) = TakesField IsKnown c f × IsGood IsKnown cs fs

-- the first of the columns whose field is refused
abbrev pub RefusesFirst : (List ℕ → Type 0) → List (Option Column) → List (List ℕ) → FileKind → Type 0
RefusesFirst IsKnown [] fields why = ⊥
RefusesFirst IsKnown (c ∷ cs) [] why = ⊥
RefusesFirst IsKnown (c ∷ cs) (f ∷ fs) why = RefusesField IsKnown c f why ⊎ (TakesField IsKnown c f × RefusesFirst IsKnown cs fs why)

-- how a record breaks a rule: the number of its fields is tested before any column
abbrev pub BreaksRecord : (List ℕ → Type 0) → List (Option Column) → List (List ℕ) → FileKind → Type 0
BreaksRecord IsKnown columns fields why =
    ((why ≡ kind.FieldCount (length fields)) × (length fields ≢ length columns))
    ⊎ ((length fields ≡ length columns) × RefusesFirst IsKnown columns fields why)

-- the field under a column, or the empty text where the file has no such column
abbrev pub text_under : List (Option Column) → List (List ℕ) → Column → List ℕ
text_under [] fields column = []
text_under (c ∷ cs) [] column = []
text_under (c ∷ cs) (f ∷ fs) column = if is_column column c then f else text_under cs fs column

-- the number under a column; no text is the number 0
abbrev pub whole_under : List (Option Column) → List (List ℕ) → Column → ℕ
whole_under columns fields column = whole_value (text_under columns fields column)

abbrev pub milli_under : List (Option Column) → List (List ℕ) → Column → ℕ
milli_under columns fields column = milli_value (text_under columns fields column)

-- a record of an event file and its row; a file with no column of stops gives stop 0
pub record IsEventRow (columns : List (Option Column)) (fields : List (List ℕ)) (row : EventRow) : Type 0 where
  pub good : IsGood IsEventWord columns fields
  pub id : row.id.0 ≡ whole_under columns fields col.Id
  pub word : IsWord (event_word row.kind) (text_under columns fields col.Kind)
  pub time : row.time ≡ whole_under columns fields col.Time
  pub weight : row.weight ≡ milli_under columns fields col.Weight
  pub stop : row.stop.0 ≡ whole_under columns fields col.Stop

-- a record of an activity file and its row
pub record IsActivityRow (columns : List (Option Column)) (fields : List (List ℕ)) (row : ActRow) : Type 0 where
  pub good : IsGood IsActivityWord columns fields
  pub id : row.id.0 ≡ whole_under columns fields col.Id
  pub word : IsWord (activity_word row.kind) (text_under columns fields col.Kind)
  pub tail : row.tail.0 ≡ whole_under columns fields col.Tail
  pub head : row.head.0 ≡ whole_under columns fields col.Head
  pub lower : row.lower ≡ whole_under columns fields col.Lower
  pub weight : row.weight ≡ milli_under columns fields col.Weight

-- delay files have two columns, and no type words
abbrev pub delay_columns : List (Option Column)
delay_columns = Some col.Id ∷ Some col.Delay ∷ []

abbrev pub IsNoWord : List ℕ → Type 0
IsNoWord text = ⊥

-- a record of a delay file and its row
pub record IsDelayRow (columns : List (Option Column)) (fields : List (List ℕ)) (row : DelayRow) : Type 0 where
  pub good : IsGood IsNoWord columns fields
  pub id : row.id ≡ whole_under columns fields col.Id
  pub delay : row.delay ≡ whole_under columns fields col.Delay

-- a file of ids has one column
abbrev pub id_columns : List (Option Column)
id_columns = Some col.Id ∷ []

-- a record of a file of ids and its id
pub record IsIdRow (columns : List (Option Column)) (fields : List (List ℕ)) (id : ℕ) : Type 0 where
  pub good : IsGood IsNoWord columns fields
  pub value : id ≡ whole_under columns fields col.Id

-- the records and these rows, one for one
abbrev pub AreRows : {R : Type 0} → (List (Option Column) → List (List ℕ) → R → Type 0) → List (Option Column) →
    List (List (List ℕ)) → List R → Type 0
AreRows IsRow columns [] [] = Unit {0}
AreRows IsRow columns [] (x ∷ xs) = ⊥
AreRows IsRow columns (r ∷ rs) [] = ⊥
AreRows IsRow columns (r ∷ rs) (x ∷ xs) = IsRow columns r x × AreRows IsRow columns rs xs

-- the first of the records that breaks a rule; its number counts from 1
pub record IsFirstFault (IsKnown : List ℕ → Type 0) (columns : List (Option Column)) (records : List (List (List ℕ)))
    (fault : FileFault) : Type 0 where
  pub before : List (List (List ℕ))
  pub broken : List (List ℕ)
  pub after : List (List (List ℕ))
  pub records_are : records ≡ before ++ (broken ∷ after)
  pub good : AllByRecursion (IsGood IsKnown columns) before
  pub number : fault.number ≡ length before + 1
  pub breaks : BreaksRecord IsKnown columns broken fault.kind

-- the fault of a file that begins with a byte order mark
abbrev pub byte_order_mark : FileFault
byte_order_mark = record { number = 0; kind = kind.ByteOrderMark }

-- the answer where memory runs out, which the bytes do not determine
abbrev pub no_memory : FileFault
no_memory = record { number = 0; kind = kind.OutOfMemory }

-- what a file reads as. A byte order mark is tested before any other rule
abbrev pub ReadsFile : {R : Type 0} → (List ℕ → Type 0) → (List (Option Column) → List (List ℕ) → R → Type 0) →
    List (Option Column) → List ℕ → Result (List R) FileFault → Type 0
ReadsFile IsKnown IsRow columns bytes (Ok rows) = (has_byte_order_mark bytes ≡ false) × AreRows IsRow columns (counted_records bytes) rows
ReadsFile IsKnown IsRow columns bytes (Err fault) =
    ((has_byte_order_mark bytes ≡ true) × (fault ≡ byte_order_mark))
    ⊎ ((has_byte_order_mark bytes ≡ false) × IsFirstFault IsKnown columns (counted_records bytes) fault)

abbrev pub ReadsEvents : List (Option Column) → List ℕ → Result (List EventRow) FileFault → Type 0
ReadsEvents columns bytes answer = ReadsFile IsEventWord IsEventRow columns bytes answer

abbrev pub ReadsActivities : List (Option Column) → List ℕ → Result (List ActRow) FileFault → Type 0
ReadsActivities columns bytes answer = ReadsFile IsActivityWord IsActivityRow columns bytes answer

abbrev pub ReadsDelays : List ℕ → Result (List DelayRow) FileFault → Type 0
ReadsDelays bytes answer = ReadsFile IsNoWord IsDelayRow delay_columns bytes answer

abbrev pub ReadsIds : List ℕ → Result (List ℕ) FileFault → Type 0
ReadsIds bytes answer = ReadsFile IsNoWord IsIdRow id_columns bytes answer
