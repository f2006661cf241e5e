-- The columns of a file, and the words that name them.
use Rattle.std.specs.Prelude.{ℕ, ◌≡◌, ◌≤◌, ◌==◌, ◌⊎◌, Bool, true, false, List, [], ◌∷◌, ◌++◌, length, map, codes, Option, Some, None, Result, Ok, Err}
use Rattle.std.specs.List.{list_any}
use Rattle.dm_lintim.specs.declared.columns.Column.{Column}
use Rattle.dm_lintim.specs.declared.columns.Column.TheVariants as col
use Rattle.dm_lintim.specs.declared.columns.ColumnFault.{ColumnFault}
use Rattle.dm_lintim.specs.declared.columns.ColumnFault.TheVariants as fault
use Rattle.dm_lintim.specs.declared.layout.TheConstants.{MOST}
use Rattle.dm_lintim.specs.Pieces.{is_comma, pieces}

-- the word that names a column
abbrev pub column_name : Column → List ℕ
column_name col.Id = codes "id"
column_name col.PeriodicId = codes "periodic-id"
column_name col.Kind = codes "type"
column_name col.Time = codes "time"
column_name col.Weight = codes "weight"
column_name col.Stop = codes "stop"
column_name col.Tail = codes "tail"
column_name col.Head = codes "head"
column_name col.Lower = codes "lower"
column_name col.Upper = codes "upper"
column_name col.Delay = codes "delay"

abbrev pub column_number : Column → ℕ
column_number col.Id = 0
column_number col.PeriodicId = 1
column_number col.Kind = 2
column_number col.Time = 3
column_number col.Weight = 4
column_number col.Stop = 5
column_number col.Tail = 6
column_number col.Head = 7
column_number col.Lower = 8
column_number col.Upper = 9
column_number col.Delay = 10

-- whether two columns are one
abbrev pub same_column : Column → Column → Bool
same_column a b = column_number a == column_number b

-- whether a place of a record is this column's; a place that is passed over is no column's
abbrev pub is_column : Column → Option Column → Bool
is_column c None = false
is_column c (Some d) = same_column c d

-- whether this column is among the columns of a file
abbrev pub has_column : List (Option Column) → Column → Bool
has_column columns c = list_any (is_column c) columns

-- the columns that a file of events, or of activities, may have, in the standard order
abbrev pub event_columns : List Column
event_columns = col.Id ∷ col.PeriodicId ∷ col.Kind ∷ col.Time ∷ col.Weight ∷ col.Stop ∷ []

abbrev pub activity_columns : List Column
activity_columns = col.Id ∷ col.PeriodicId ∷ col.Kind ∷ col.Tail ∷ col.Head ∷ col.Lower ∷ col.Upper ∷ col.Weight ∷ []

-- and those that it must have
abbrev pub event_required : List Column
event_required = col.Id ∷ col.Kind ∷ col.Time ∷ col.Weight ∷ []

abbrev pub activity_required : List Column
activity_required = col.Id ∷ col.Kind ∷ col.Tail ∷ col.Head ∷ col.Lower ∷ col.Weight ∷ []

-- what contracts see of `Columns`; None is a column that is passed over
pub record FileColumns : Type 0 where
  pub events : List (Option Column)
  pub activities : List (Option Column)

abbrev pub standard_columns : FileColumns
standard_columns = record { events = map Some event_columns; activities = map Some activity_columns }

-- whether a file may have a column
abbrev pub is_known : List Column → Column → Bool
is_known known c = list_any (same_column c) known

-- what a word stands for among the columns that a file may have
abbrev pub Names : List Column → List ℕ → Option Column → Type 0
Names known word None = word ≡ codes "-"
Names known word (Some c) = (is_known known c ≡ true) × (word ≡ column_name c)

-- the words stand for these columns, one for one
abbrev pub NameAll : List Column → List (List ℕ) → List (Option Column) → Type 0
NameAll known [] [] = Unit {0}
NameAll known [] (c ∷ cs) = ⊥
NameAll known (w ∷ ws) [] = ⊥
NameAll known (w ∷ ws) (c ∷ cs) = Names known w c × NameAll known ws cs

-- a column that is not among these; one that is passed over never is
abbrev pub IsNew : List (Option Column) → Option Column → Type 0
IsNew columns None = Unit {0}
IsNew columns (Some c) = has_column columns c ≡ false

-- no column stands twice, but for those passed over
abbrev pub IsOnce : List (Option Column) → Type 0
IsOnce [] = Unit {0}
IsOnce (c ∷ cs) = IsNew cs c × IsOnce cs

-- the words are good up to here: they stand for these columns, none twice, MOST at most
pub record AreColumns (known : List Column) (words : List (List ℕ)) (columns : List (Option Column)) : Type 0 where
  pub names : NameAll known words columns
  pub once : IsOnce columns
  pub few : length columns ≤ MOST

-- how a word breaks a rule where these columns stand before it
abbrev pub BreaksWord : List Column → List (Option Column) → List ℕ → ColumnFault → Type 0
BreaksWord known columns word (fault.UnknownColumn place) = (place ≡ length columns) × ((c : Option Column) → Names known word c → ⊥)
BreaksWord known columns word (fault.DoubleColumn place) =
    (place ≡ length columns) × (c : Column) × Names known word (Some c) × (has_column columns c ≡ true)
BreaksWord known columns word fault.TooMany = (length columns ≡ MOST) × (c : Option Column) × Names known word c × IsNew columns c
BreaksWord known columns word (fault.MissingColumn c) = ⊥

-- the first of the words that breaks a rule
pub record StopsAtWord (known : List Column) (words : List (List ℕ)) (why : ColumnFault) : Type 0 where
  pub before : List (List ℕ)
  pub word : List ℕ
  pub after : List (List ℕ)
  pub columns : List (Option Column)
  pub words_are : words ≡ before ++ (word ∷ after)
  pub good : AreColumns known before columns
  pub breaks : BreaksWord known columns word why

-- all of these columns are there
abbrev pub HasAll : List (Option Column) → List Column → Type 0
HasAll columns [] = Unit {0}
HasAll columns (c ∷ cs) = (has_column columns c ≡ true) × HasAll columns cs

-- each kind of file has the columns that it must have
pub record HasRequired (events activities : List (Option Column)) : Type 0 where
  pub of_events : HasAll events event_required
  pub of_activities : HasAll activities activity_required

-- the first of these columns that is not there
abbrev pub FirstMissing : List (Option Column) → List Column → Column → Type 0
FirstMissing columns [] missing = ⊥
FirstMissing columns (c ∷ cs) missing =
    ((has_column columns c ≡ false) × (missing ≡ c)) ⊎ ((has_column columns c ≡ true) × FirstMissing columns cs missing)

abbrev pub words_of : List ℕ → List (List ℕ)
words_of text = pieces is_comma text

-- a text of column words, separated by commas, gives these columns
pub record GivesColumns (known required : List Column) (text : List ℕ) (columns : List (Option Column)) : Type 0 where
  pub words : AreColumns known (words_of text) columns
  pub whole : HasAll columns required

-- some column is missing, and no word breaks a rule
pub record LacksColumn (known required : List Column) (text : List ℕ) (missing : Column) : Type 0 where
  pub columns : List (Option Column)
  pub words : AreColumns known (words_of text) columns
  pub lacks : FirstMissing columns required missing

-- a text of column words is refused: at the first word that breaks a rule, or else for the first column that is missing
abbrev pub RefusesColumns : List Column → List Column → List ℕ → ColumnFault → Type 0
RefusesColumns known required text (fault.MissingColumn c) = LacksColumn known required text c
RefusesColumns known required text (fault.UnknownColumn place) = StopsAtWord known (words_of text) (fault.UnknownColumn place)
RefusesColumns known required text (fault.DoubleColumn place) = StopsAtWord known (words_of text) (fault.DoubleColumn place)
RefusesColumns known required text fault.TooMany = StopsAtWord known (words_of text) fault.TooMany

abbrev pub ReadsColumns : List Column → List Column → List ℕ → Result (List (Option Column)) ColumnFault → Type 0
ReadsColumns known required text (Ok columns) = GivesColumns known required text columns
ReadsColumns known required text (Err why) = RefusesColumns known required text why

-- both texts are good
pub record GivesFileColumns (events activities : List ℕ) (columns : FileColumns) : Type 0 where
  pub of_events : GivesColumns event_columns event_required events columns.events
  pub of_activities : GivesColumns activity_columns activity_required activities columns.activities

-- the events' text is good, and the activities' is not
pub record RefusesActivityColumns (events activities : List ℕ) (why : ColumnFault) : Type 0 where
  pub columns : List (Option Column)
  pub of_events : GivesColumns event_columns event_required events columns
  pub of_activities : RefusesColumns activity_columns activity_required activities why

-- what two texts of column words give: the events' text is tested first
abbrev pub ReadsFileColumns : List ℕ → List ℕ → Result FileColumns ColumnFault → Type 0
ReadsFileColumns events activities (Ok columns) = GivesFileColumns events activities columns
ReadsFileColumns events activities (Err why) =
    RefusesColumns event_columns event_required events why ⊎ RefusesActivityColumns events activities why
