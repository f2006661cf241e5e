-- The changes of a network, by place.
use Rattle.std.specs.Prelude.{ℕ, ◌≡◌, ◌<◌, ◌≤◌, false, List, length, slice_index, sum_by}
use Rattle.std.specs.List.{range_with_len}
use Rattle.dm_network.specs.Net.{Net, activity_at, is_change}

-- what is 0 of every activity that is no change adds up over the places to what it adds up to over the first n activities
abbrev pub AddsUp : Net → ℕ → List ℕ → (ℕ → ℕ) → Type 0
AddsUp net n places f =
    ((a : ℕ) → a < n → is_change (activity_at net a).kind ≡ false → f a ≡ 0) → sum_by f places ≡ sum_by f (range_with_len 0 n)

-- the places are those of the changes among the first n activities
pub record AreChangesTo (net : Net) (n : ℕ) (places : List ℕ) : Type 0 where
  pub each : (k : ℕ) → k < length places → slice_index places k < n
  pub few : length places ≤ n
  pub add_up : (f : ℕ → ℕ) → AddsUp net n places f
