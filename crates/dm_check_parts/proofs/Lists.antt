-- Parts one after another.
use Rattle.std.proofs.Common.{◌≡◌, ℕ, ◌+◌, ◌-◌, ◌<◌, ◌≤◌, List, length, take, get_or, sym, ap, subst, arith}
use Rattle.std.specs.Prelude.{All, sum_by}
use Rattle.std.proofs.lemmas.List.{take_more, take_all}
use Rattle.std.proofs.lemmas.List.Elements.{All-push, All-get_or}
use Rattle.std.proofs.lemmas.List.Sums.{sum_by_more, sum_by-take-le, get_or-le-sum_by}
use Rattle.dm_parts.specs.declared.parts.Part.{Part}
use Rattle.dm_parts.specs.Sizes.{ids_of, most_ids}

module _ {X : Type 0} (P : X → Type 0) (xs : List X) (i : ℕ) where
  pub holds_more : (x : X) → i < length xs → x ≡ get_or xs i x → All P (take i xs) → P x → All P (take (i + 1) xs)
  holds_more x lt is h p = subst (All P) (sym (take_more xs i x lt)) (All-push P (take i xs) (get_or xs i x) h (subst P is p))

  pub holds_all : length xs ≤ i → All P (take i xs) → All P xs
  holds_all past h = subst (All P) (take_all i xs past) h

  pub holds_here : (x : X) → i < length xs → x ≡ get_or xs i x → All P xs → P x
  holds_here x lt is h = subst P (sym is) (All-get_or P xs i x lt h)

-- the ids of one share are as few as those of all
pub few_here : (parts : List Part) (i : ℕ) (part : Part) → i < length parts → part ≡ get_or parts i part → ids_of parts ≤ most_ids →
    length part.share.arrivals + length part.share.changes ≤ most_ids
few_here parts i part lt is few =
    let here = get_or-le-sum_by (λ (p : Part). length p.share.arrivals + length p.share.changes) parts i part lt in
    let same : length part.share.arrivals + length part.share.changes ≡ length (get_or parts i part).share.arrivals + length (get_or parts i part).share.changes =
    ap (λ (p : Part). length p.share.arrivals + length p.share.changes) is in
    omega (arith, here, same, few)

-- what is left of a whole, from which the first i are taken
module _ {X : Type 0} (f : X → ℕ) (xs : List X) (i : ℕ) (x : X) (left whole : ℕ) where
  pub is_left : i < length xs → x ≡ get_or xs i x → left + sum_by f (take i xs) ≡ whole → sum_by f xs ≤ whole → f x ≤ left
  is_left lt is so_far few =
      let grown = sum_by_more f xs i x lt in
      let front = sum_by-take-le f xs (i + 1) in
      let same : f x ≡ f (get_or xs i x) = ap f is in
      omega (arith, grown, front, same, so_far, few)

  pub takes_one : i < length xs → x ≡ get_or xs i x → left + sum_by f (take i xs) ≡ whole → sum_by f xs ≤ whole → (left - f x) + sum_by f (take (i + 1) xs) ≡ whole
  takes_one lt is so_far few =
      let grown = sum_by_more f xs i x lt in
      let same : f x ≡ f (get_or xs i x) = ap f is in
      let has = is_left lt is so_far few in
      omega (arith, grown, same, so_far, has)

-- a sum from a first value on
pub sum_grows : {X : Type 0} (f : X → ℕ) (xs : List X) (i first total : ℕ) (x : X) → i < length xs → x ≡ get_or xs i x → total ≡ sum_by f (take i xs) + first →
    total + f x ≡ sum_by f (take (i + 1) xs) + first
sum_grows f xs i first total x lt is so_far =
    let grown = sum_by_more f xs i x lt in
    let same : f x ≡ f (get_or xs i x) = ap f is in
    omega (arith, grown, same, so_far)

pub sum_passes : {X : Type 0} (f : X → ℕ) (xs : List X) (i first total most : ℕ) (x : X) → i < length xs → x ≡ get_or xs i x → total ≡ sum_by f (take i xs) + first → most ≤ total + f x →
    most ≤ sum_by f xs + first
sum_passes f xs i first total most x lt is so_far large =
    let grown = sum_grows f xs i first total x lt is so_far in
    let front = sum_by-take-le f xs (i + 1) in
    omega (arith, grown, front, large)
