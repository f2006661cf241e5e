-- Words that are names and words that are options.
--
-- An option is a word `--NAME=VALUE`, or the word `--solve`, wherever it stands after the command word. Each name stands at most
-- once, and no value is empty.
use Rattle.std.specs.Prelude.{ℕ, ◌≡◌, ◌≢◌, Bool, true, false, not, ◌==◌, if◌then◌else◌, List, [], ◌∷◌, take, drop, length, Option, Some, None, is_some, codes}
use Rattle.std.specs.List.{filter_map, list_any}
use Rattle.std.specs.Str.{bytes_eq}
use Rattle.dm_words.specs.declared.options.Kind.{Kind}
use Rattle.dm_words.specs.declared.options.Kind.TheVariants.{Run, Check, Gen, Query}
use Rattle.dm_words.specs.declared.options.QueryKind.TheVariants.{Follow, Window, Rules, Journey}

-- how the word of each option begins
abbrev pub penalty_option : List ℕ
penalty_option = codes "--penalty="

abbrev pub plans_option : List ℕ
plans_option = codes "--plans="

abbrev pub batch_option : List ℕ
batch_option = codes "--batch="

abbrev pub event_columns_option : List ℕ
event_columns_option = codes "--event-columns="

abbrev pub activity_columns_option : List ℕ
activity_columns_option = codes "--activity-columns="

abbrev pub event_delays_option : List ℕ
event_delays_option = codes "--event-delays="

abbrev pub activity_delays_option : List ℕ
activity_delays_option = codes "--activity-delays="

abbrev pub cancelled_option : List ℕ
cancelled_option = codes "--cancelled="

abbrev pub boards_option : List ℕ
boards_option = codes "--boards="

abbrev pub at_option : List ℕ
at_option = codes "--at="

abbrev pub held_option : List ℕ
held_option = codes "--held="

abbrev pub minimal_option : List ℕ
minimal_option = codes "--minimal="

abbrev pub changes_option : List ℕ
changes_option = codes "--changes="

abbrev pub workers_option : List ℕ
workers_option = codes "--workers="

-- the option that has no value
abbrev pub solve_option : List ℕ
solve_option = codes "--solve"

-- the options that name files of what is so at the start
unfoldable pub start_options : List (List ℕ)
start_options = event_delays_option ∷ activity_delays_option ∷ cancelled_option ∷ []

-- the options of the files of a folder
unfoldable pub file_options : List (List ℕ)
file_options = penalty_option ∷ plans_option ∷ event_columns_option ∷ activity_columns_option ∷ start_options

-- the options of a command
abbrev pub options_of : Kind → List (List ℕ)
options_of Run = batch_option ∷ workers_option ∷ boards_option ∷ file_options
options_of Check = file_options
options_of Gen = penalty_option ∷ []
options_of (Query Follow) = file_options
options_of (Query Window) = at_option ∷ held_option ∷ minimal_option ∷ solve_option ∷ file_options
options_of (Query Rules) = workers_option ∷ solve_option ∷ file_options
options_of (Query Journey) = changes_option ∷ file_options

-- what stands behind the text, where the word begins with it
abbrev pub behind : List ℕ → List ℕ → Option (List ℕ)
behind text word = if bytes_eq (take (length text) word) text then Some (drop (length text) word) else None

-- whether the word is one of these options
abbrev pub is_option : List (List ℕ) → List ℕ → Bool
is_option options word = list_any (λ option. is_some (behind option word)) options

-- whether the word is a name: it is not empty, and does not begin with `-`
abbrev pub is_name : List ℕ → Bool
is_name [] = false
is_name (c ∷ cs) = not (c == 45)

-- the values that the words give an option
abbrev pub values_of : List ℕ → List (List ℕ) → List (List ℕ)
values_of option words = filter_map (behind option) words

-- the words give an option this value, which is not empty, or none
abbrev pub GivesOption : List ℕ → List (List ℕ) → Option (List ℕ) → Type 0
GivesOption option words None = values_of option words ≡ []
GivesOption option words (Some value) = (values_of option words ≡ value ∷ []) × (value ≢ [])

-- whether the words have an option that takes no value
abbrev pub HasFlag : List ℕ → List (List ℕ) → Bool → Type 0
HasFlag option words true = values_of option words ≡ [] ∷ []
HasFlag option words false = values_of option words ≡ []
