-- What contracts see of the forms in memory.
use Rattle.std.specs.Prelude.{ℕ, Bool, List, Option, nat_eq, option_map}
use Rattle.std.specs.List.{find}
use Rattle.std.specs.Cmp.Lexicographic.{pointwise}
use Rattle.dm_outside.specs.declared.shelves.MemFile.{MemFile}

-- The bytes that are left, how many of them a read gives at most, the calls that fail, and the calls and the
-- faults so far.
pub record SourceValue : Type 0 where
  pub left : List ℕ
  pub piece : ℕ
  pub fails : List ℕ
  pub made : ℕ
  pub faults : ℕ

-- The bytes that were taken, how many may be in all and at a write, the calls that fail, and the calls and the
-- faults so far.
pub record SinkValue : Type 0 where
  pub taken : List ℕ
  pub room : ℕ
  pub piece : ℕ
  pub fails : List ℕ
  pub made : ℕ
  pub faults : ℕ

-- The files, the openings that fail, and the openings and the faults so far.
pub record ShelfValue : Type 0 where
  pub files : List MemFile
  pub fails : List ℕ
  pub made : ℕ
  pub faults : ℕ

-- the file has this name
abbrev pub is_named : List ℕ → MemFile → Bool
is_named name file = pointwise nat_eq file.name.now name

-- the file of a name
abbrev pub file_named : List MemFile → List ℕ → Option MemFile
file_named files name = find (is_named name) files

-- the bytes under a name
abbrev pub bytes_named : List MemFile → List ℕ → Option (List ℕ)
bytes_named files name = option_map (λ file. file.bytes.now) (file_named files name)
