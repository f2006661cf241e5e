-- Ids that rise, one after the other.
use Rattle.std.proofs.Common.{◌≡◌, ℕ, ◌+◌, ◌-◌, ◌<◌, ◌≤◌, List, length, map, get_or, sym, subst, inl, inr, arith}
use Rattle.std.specs.List.Sorted.{IsStrictlyIncreasing}
use Rattle.std.proofs.lemmas.Bool.{cases_lt}
use Rattle.std.proofs.lemmas.List.{get_or-map, length-map}

-- the first k of the numbers rise
abbrev pub RisesTo : List ℕ → ℕ → Type 0
RisesTo xs k = (j : ℕ) → j + 1 < k → get_or xs j 0 < get_or xs (j + 1) 0

module _ {K : Type 0} (number : K → ℕ) (ids : List K) (k : ℕ) (d e : K) (some : 1 ≤ k) (below : k < length ids) where
  pub goes_on_rising : number (get_or ids (k - 1) d) < number (get_or ids k e) → RisesTo (map number ids) k → RisesTo (map number ids) (k + 1)
  goes_on_rising up was j lt =
      elim (cases_lt (j + 1) k) [
        | inl before ↦ was j before
        | inr here ↦
            let at : j ≡ k - 1 = omega (arith, lt, here) in
            let next : j + 1 ≡ k = omega (arith, lt, here) in
            let f = get_or-map number ids (k - 1) d 0 (omega (arith, below)) in
            let g = get_or-map number ids k e 0 below in
            let up' : get_or (map number ids) (k - 1) 0 < get_or (map number ids) k 0 = omega (arith, f, g, up) in
            subst (λ n. get_or (map number ids) j 0 < get_or (map number ids) n 0) (sym next)
            (subst (λ i. get_or (map number ids) i 0 < get_or (map number ids) k 0) (sym at) up')
      ]

  pub falls_there : number (get_or ids k e) ≤ number (get_or ids (k - 1) d) → IsStrictlyIncreasing (map number ids) → ⊥
  falls_there down rises =
      let size = length-map ids number in
      let next : k - 1 + 1 ≡ k = omega (arith, some) in
      let up = rises (k - 1) (omega (arith, size, below, next)) in
      let up' : get_or (map number ids) (k - 1) 0 < get_or (map number ids) k 0 = subst (λ n. get_or (map number ids) (k - 1) 0 < get_or (map number ids) n 0) next up in
      let f = get_or-map number ids (k - 1) d 0 (omega (arith, below)) in
      let g = get_or-map number ids k e 0 below in
      omega (arith, f, g, up', down)
