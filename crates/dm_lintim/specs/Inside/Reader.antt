-- What `csv`'s reader has left of a file.
use Rattle.std.specs.Prelude.{ℕ, ◌≡◌, ◌⊎◌, Bool, true, false, List, [], ◌∷◌, map, length, nat_lt, slice_index, ◌&&◌, Option, Some, IsSome, unwrap_or}
use Rattle.std.specs.Char.{is_ascii_digit}
use Rattle.std.specs.Borrow.{Bor}
use Rattle.csv.specs.Reading.{Ready, reader_config, reader_state, reader_trim, source_of}
use Rattle.csv.specs.declared.parser.State.{State}
use Rattle.csv.specs.declared.parser.State.TheVariants as st
use Rattle.csv.specs.declared.reader.Reader.{Reader}
use Rattle.csv.specs.declared.reader.Trim.TheVariants as trim
use Rattle.csv.specs.Records.{Row, fields_of}
use Rattle.dm_lintim.specs.Pieces.{cell_of, split_records}
use Rattle.dm_lintim.specs.Split.{plain_config}

-- between two records
abbrev pub IsBetween : State → Type 0
IsBetween s = (s ≡ st.StartRecord) ⊎ (s ≡ st.AfterCr)

-- the bytes that a reader of a text has left
abbrev pub bytes_left : Reader (Bor (List ℕ)) → Option (List ℕ)
bytes_left reader = source_of (λ s. Some s.now) reader

-- the records that a reader has left, each with its fields as they stand
abbrev pub records_of : Reader (Bor (List ℕ)) → List (List (List ℕ))
records_of reader = split_records (unwrap_or (bytes_left reader) [])

-- the reader is set up to split plainly, stands between two records, and knows its text
pub record SplitsPlainly (reader : Reader (Bor (List ℕ))) : Type 0 where
  pub ready : Ready reader
  pub config : reader_config reader ≡ plain_config
  pub trim : reader_trim reader ≡ trim.None
  pub between : IsBetween (reader_state reader)
  pub known : IsSome (bytes_left reader)

-- a read took the first of the records that were left, or there was none
abbrev pub TakesFirst : Reader (Bor (List ℕ)) → Reader (Bor (List ℕ)) → List (List ℕ) → Bool → Type 0
TakesFirst old new fields true = SplitsPlainly new × (records_of old ≡ fields ∷ records_of new)
TakesFirst old new fields false = records_of old ≡ []

-- the cells of a record
abbrev pub cells_of : Row → List (List ℕ)
cells_of row = map cell_of (fields_of row)

-- whether a text begins with a digit
abbrev pub begins_with_digit : List ℕ → Bool
begins_with_digit text = nat_lt 0 (length text) && is_ascii_digit (slice_index text 0)
