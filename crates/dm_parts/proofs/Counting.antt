-- How many nodes the first parts have.
use Rattle.std.proofs.Common.{◌≡◌, ℕ, ◌+◌, ◌*◌, ◌<◌, ◌≤◌, List, length, take, get_or, ap, arith}
use Rattle.std.proofs.lemmas.List.Sums.{sum_by_more}
use Rattle.dm_parts.specs.declared.parts.Part.{Part}
use Rattle.dm_parts.specs.Sizes.{nodes_of}

pub record CountsNodes (parts : List Part) (i nodes : ℕ) : Type 0 where
  pub is : nodes ≡ nodes_of (take i parts)
  pub small : nodes ≤ 18446744073709551615 * i

pub counts_more : (parts : List Part) (i nodes more : ℕ) (part d : Part) → i < length parts → part ≡ get_or parts i d → more ≡ length part.tree → more ≤ 18446744073709551615 →
    CountsNodes parts i nodes → CountsNodes parts (i + 1) (nodes + more)
counts_more parts i nodes more part d lt is size few counts =
    let grown = sum_by_more (λ (p : Part). length p.tree) parts i d lt in
    let here : length part.tree ≡ length (get_or parts i d).tree = ap (λ (p : Part). length p.tree) is in
    let before = counts.is in
    let small = counts.small in
    record { is = omega (arith, grown, here, before, size); small = omega (arith, small, few) }
