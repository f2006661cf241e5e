-- What opening a name gives, where the shelf tells its map of names to bytes.
use Rattle.std.specs.Prelude.{◌≡◌, ℕ, List, Option, None, Some, IsSome, ⊤}

-- the name is on the shelf, and what is opened has all its bytes left
abbrev pub Opens : Option (List ℕ → Option (List ℕ)) → List ℕ → Option (List ℕ) → Type 0
Opens None name left = ⊤
Opens (Some files) name left = IsSome (files name) × (left ≡ files name)
