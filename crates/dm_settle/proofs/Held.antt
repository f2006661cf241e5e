-- What is held of the places in the row of an event.
use Rattle.std.proofs.Common.{◌≡◌, ℕ, ◌+◌, ◌<◌, Bool, false, IsTrue, List, length, ap, inl, inr, arith, slice_index}
use Rattle.std.proofs.lemmas.Bool.{cases_lt}
use Rattle.dm_network.specs.Net.{Net, places_into, places_out_of}
use Rattle.dm_settle.specs.Constraints.{ConstraintsValue, IsSizedFor}
use Rattle.dm_network.proofs.EventRows.{leads_into, leads_out}

-- the places in a row are those of activities that may be held
module _ (net : Net) (given : ConstraintsValue) (sized : IsSizedFor net given) (event n : ℕ) (row : List ℕ) where
  pub into_may_be_held : row ≡ places_into net event → n < length row → slice_index row n < length given.held
  into_may_be_held is lt =
      let is_activity = (leads_into net event n row is lt).is_activity in
      let many = sized.held in
      omega arith

  pub out_may_be_held : row ≡ places_out_of net event → n < length row → slice_index row n < length given.held
  out_may_be_held is lt =
      let is_activity = (leads_out net event n row is lt).is_activity in
      let many = sized.held in
      omega arith

-- what is so of the held ones of n places is so with one more that is not held
pub with_one_free : (held : ℕ → Bool) (P : ℕ → Type 0) (n : ℕ) → held n ≡ false → ((k : ℕ) → k < n → IsTrue (held k) → P k) →
    (k : ℕ) → k < n + 1 → IsTrue (held k) → P k
with_one_free held P n free had k lt holds = elim (cases_lt k n) [
  | inl earlier ↦ had k earlier holds
  | inr past ↦
      let here : k ≡ n = omega arith in
      let same : held k ≡ held n = ap held here in
      absurd cc
]
