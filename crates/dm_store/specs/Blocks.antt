-- The form of a journal: blocks, and an end that counts for nothing.
use Rattle.std.specs.Prelude.{◌≡◌, ℕ, Bool, true, false, ◌==◌, ◌||◌, not, if◌then◌else◌, nat_eq, List, [], ◌∷◌, ◌++◌, codes, length, Option, None, Some, ⊤}
use Rattle.std.specs.Borrow.{Bor}
use Rattle.std.specs.Char.{is_ascii_digit}
use Rattle.std.specs.Fmt.{decimal}
use Rattle.std.specs.List.{flat_map, starts_with}
use Rattle.dm_store.specs.declared.faults.StoreError.{StoreError}
use Rattle.dm_store.specs.declared.faults.StoreError.TheVariants.{NoJournal, OtherVersion, Broken}

-- the gate of a block that counts: +
abbrev pub open_gate : ℕ
open_gate = 43

-- the gate that the journal writes where no block counts yet: ~
abbrev pub closed_gate : ℕ
closed_gate = 126

-- what stands behind the gate of a block: the length of its content in decimal digits, a line feed, and the content
abbrev pub behind_gate : List ℕ → List ℕ
behind_gate content = decimal (length content) ++ 10 ∷ content

-- a block that counts
abbrev pub block : List ℕ → List ℕ
block content = open_gate ∷ behind_gate content

-- no block stands in front
abbrev pub IsEnd : List ℕ → Type 0
IsEnd file = (content rest : List ℕ) → file ≡ block content ++ rest → ⊥

-- the file is these blocks, and an end that counts for nothing
pub record Stands (contents : List (List ℕ)) (file : List ℕ) : Type 0 where
  pub end : List ℕ
  pub split : file ≡ flat_map block contents ++ end
  pub is_end : IsEnd end

-- the blocks, and behind them a closed gate
abbrev pub at_rest : List (List ℕ) → List ℕ
at_rest contents = flat_map block contents ++ closed_gate ∷ []

-- the block in front, with what stands behind it, where there is one
abbrev pub ReadsBlock : List ℕ → Option (Bor (List ℕ) × Bor (List ℕ)) → Type 0
ReadsBlock file (Some (content, rest)) = file ≡ block content.now ++ rest.now
ReadsBlock file None = IsEnd file

-- ---- what is not repaired

-- no block stands in the journal yet
abbrev pub is_new : List (List ℕ) → Bool
is_new [] = true
is_new (first ∷ contents) = false

-- An end that a crash may leave behind the last block: one byte at most, or a gate that is not open and anything. In a new
-- journal that gate is the journal's own, or a digit stands behind it.
abbrev pub is_crash_end : Bool → List ℕ → Bool
is_crash_end new [] = true
is_crash_end new (gate ∷ []) = true
is_crash_end new (gate ∷ (next ∷ rest)) =
    if gate == open_gate then false else (not new || (gate == closed_gate || is_ascii_digit next))

-- the line that the first block begins with
abbrev pub version : List ℕ
version = codes "dm-store 1\n"

-- why the journal of these blocks and this end is left as it stands, if it is not repaired
abbrev pub refusal : List (List ℕ) → List ℕ → Option StoreError
refusal [] end = if is_crash_end true end then None else Some NoJournal
refusal (first ∷ contents) end = if starts_with nat_eq first version then
    (if is_crash_end false end then None else Some Broken) else Some OtherVersion

-- a refusal
abbrev pub IsOfJournal : StoreError → Type 0
IsOfJournal NoJournal = ⊤
IsOfJournal OtherVersion = ⊤
IsOfJournal Broken = ⊤
IsOfJournal _ = ⊥
