-- What holds of every file, and of every store in memory.
use Rattle.std.specs.Prelude.{◌≡◌, ◌<◌, ◌≤◌, ◌^◌, ℕ, List, length, take}
use Rattle.dm_store.specs.Blocks.{Stands}
use Rattle.dm_store.specs.Calls.{Image}
use Rattle.dm_store.specs.Memory.{first_image, outcomes, tells_of, was_shown_of}
use Rattle.dm_store.specs.declared.memory.MemStore.{MemStore}

-- of a file, of fewer than 2^64 bytes, one list of contents stands, and no other
pub record OneStands : Type 0 where
  pub some : (file : List ℕ) → length file < 2 ^ 64 → (contents : List (List ℕ)) × Stands contents file
  pub one : (file : List ℕ) (contents others : List (List ℕ)) → length file < 2 ^ 64 → Stands contents file →
      Stands others file → contents ≡ others

-- At each moment of the life of a store in memory, from the first on, a crash left some image.
abbrev pub SomeIsLeft : Type 0
SomeIsLeft = (store : MemStore) (count : ℕ) → tells_of store → count ≤ length store.done.items →
    (image : Image) × outcomes (first_image store.first.items (was_shown_of store)) (take count store.done.items) image
