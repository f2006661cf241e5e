-- Flags that answer a test of places.
use Rattle.std.specs.Prelude.{ℕ, ◌≡◌, ◌<◌, Bool, false, List, length, slice_index_or, slice_set}
use Rattle.dm_rows.specs.declared.messages.Flip.{Flip}
use Rattle.dm_rows.specs.declared.messages.Flip.TheVariants.{Keep, Drop, First}

-- the flag at a place, false past the end
abbrev pub is_flagged : List Bool → ℕ → Bool
is_flagged flags k = slice_index_or flags k false

-- each of the first n places has its flag, and there are no more flags
pub record AreFlags (test : ℕ → Bool) (n : ℕ) (flags : List Bool) : Type 0 where
  pub size : length flags ≡ n
  pub each : (k : ℕ) → k < n → is_flagged flags k ≡ test k

-- there is a flag for the change, for the pair that is decided
abbrev pub HasRoomFor : Flip → List Bool → List Bool → Type 0
HasRoomFor (Keep a) changes pairs = a < length changes
HasRoomFor (Drop a) changes pairs = a < length changes
HasRoomFor (First p small) changes pairs = p < length pairs

-- the flags of the changes, of the pairs with that of the flip set
abbrev pub with_change : Flip → Bool → List Bool → List Bool
with_change (Keep a) undecided changes = slice_set changes a undecided
with_change (Drop a) undecided changes = slice_set changes a undecided
with_change (First p small) undecided changes = changes

abbrev pub with_pair : Flip → Bool → List Bool → List Bool
with_pair (Keep a) undecided pairs = pairs
with_pair (Drop a) undecided pairs = pairs
with_pair (First p small) undecided pairs = slice_set pairs p undecided
