-- What taking bytes from a shelf gives and leaves, and why no network and start rows are made.
use Rattle.std.specs.Prelude.{ℕ, ◌≡◌, ◌<◌, ◌≤◌, List, length, Result, Ok, Err, Vec}
use Rattle.std.specs.declared.alloc.Global.{Global}
use Rattle.dm_outside.specs.declared.faults.TakeFault.{TakeFault}
use Rattle.dm_outside.specs.declared.faults.TakeFault.TheVariants.{ReadFault as NotRead, TooLong as TooMany, OutOfMemory}
use Rattle.dm_input.specs.declared.flaws.InputStop.{InputStop}
use Rattle.dm_input.specs.declared.flaws.InputStop.TheVariants.{Refused, ReadFault, NoMemory}
use Rattle.dm_input.specs.declared.opening.Opened.{Opened}
use Rattle.dm_words.specs.Words.{FilesAsked}
use Rattle.dm_input.specs.Input.{Told, IsHeld, Opening, OpeningAnswer, IsUnread}

-- a shelf tells what it told before
pub record IsKept {H : Type 0} (files : H → Told) (is_sound : H → List ℕ → Type 0) (old new : H) : Type 0 where
  pub same : files new ≡ files old
  pub sound : (name : List ℕ) → is_sound old name → is_sound new name

-- under the name are more bytes than the limit
pub record IsLong (told : Told) (name : List ℕ) (limit : ℕ) : Type 0 where
  pub bytes : List ℕ
  pub held : IsHeld told name bytes
  pub long : limit < length bytes

-- what taking the bytes under a name gives
abbrev pub Takes : Told → (List ℕ → Type 0) → List ℕ → ℕ → Result (Vec ℕ Global) TakeFault → Type 0
Takes told is_sound name limit (Ok bytes) = IsHeld told name bytes.items × (length bytes.items ≤ limit)
Takes told is_sound name limit (Err NotRead) = is_sound name → ⊥
Takes told is_sound name limit (Err TooMany) = IsLong told name limit
Takes told is_sound name limit (Err OutOfMemory) = Unit {0}

-- a network and its rows, seen by contracts
abbrev pub opening_in : Opened → Opening
opening_in opened = record { net = opened.net; rows = opened.rows }

-- why there is no network with its start rows
abbrev pub StopsOpening : Told → (List ℕ → Type 0) → FilesAsked → InputStop → Type 0
StopsOpening told is_sound asked (Refused flaw) = OpeningAnswer told asked (Err flaw)
StopsOpening told is_sound asked (ReadFault file) = IsUnread told is_sound asked file
StopsOpening told is_sound asked NoMemory = Unit {0}
