-- No id stands in two shares exactly where none stands twice among the ids of all.
use Rattle.std.proofs.Common.{◌≡◌, ℕ, zero, suc, ◌+◌, ◌<◌, List, [], ◌∷◌, ◌++◌, length, map, Some, refl, sym, ap, subst, ◌∙◌, ◌⊎◌, inl, inr, arith, slice_get}
use Rattle.std.specs.Prelude.{All, Contains}
use Rattle.std.specs.List.{flat_map}
use Rattle.std.specs.List.Sorted.{IsStrictlyIncreasing}
use Rattle.std.proofs.lemmas.Bool.{cases_lt}
use Rattle.std.proofs.lemmas.List.Elements.{All-head, All-tail}
use Rattle.std.proofs.lemmas.Option.{slice_get-get_or, slice_get_within, get_or_from_slice_get}
use Rattle.dm_network.specs.Build.{StandsTwice, NoneStandsTwice}
use Rattle.dm_network.proofs.Keys.{rises_between}

-- ---- what stands in one list and in another behind it

record StandsBehind (front xs : List ℕ) (k id : ℕ) : Type 0 where
  at : ℕ
  place : k ≡ length front + at
  is : slice_get xs at ≡ Some id

front_or_behind : (front xs : List ℕ) (k id : ℕ) → slice_get (front ++ xs) k ≡ Some id → (slice_get front k ≡ Some id) ⊎ StandsBehind front xs k id
front_or_behind [] xs k id e = inr (record { at = k; place = omega arith; is = e })
front_or_behind (x ∷ front) xs zero id e = inl e
front_or_behind (x ∷ front) xs (suc k) id e = elim (front_or_behind front xs k id e) [
  | inl here ↦ inl here
  | inr later ↦ let p = later.place in inr (record { at = later.at; place = omega (arith, p); is = later.is })
]

in_front : (front xs : List ℕ) (k id : ℕ) → slice_get front k ≡ Some id → slice_get (front ++ xs) k ≡ Some id
in_front [] xs k id e = absurd (cc)
in_front (x ∷ front) xs zero id e = e
in_front (x ∷ front) xs (suc k) id e = in_front front xs k id e

behind : (front xs : List ℕ) (k id : ℕ) → slice_get xs k ≡ Some id → slice_get (front ++ xs) (length front + k) ≡ Some id
behind [] xs k id e = let at : 0 + k ≡ k = omega arith in subst (λ n. slice_get xs n ≡ Some id) (sym at) e
behind (x ∷ front) xs k id e =
    let at : length (x ∷ front) + k ≡ suc (length front + k) = omega arith in
    subst (λ n. slice_get (x ∷ (front ++ xs)) n ≡ Some id) (sym at) (behind front xs k id e)

-- ---- lists of numbers, one behind the other

module _ {K : Type 0} (numbers : K → List ℕ) where
  abbrev pub flat : List K → List ℕ
  flat ks = flat_map numbers ks

  -- the number stands in the list of the one at a place
  pub record StandsIn (ks : List K) (place id : ℕ) : Type 0 where
    of : K
    is : slice_get ks place ≡ Some of
    at : ℕ
    here : slice_get (numbers of) at ≡ Some id

  record StandsSomewhere (ks : List K) (id : ℕ) : Type 0 where
    place : ℕ
    stands : StandsIn ks place id

  somewhere : (ks : List K) (k id : ℕ) → slice_get (flat ks) k ≡ Some id → StandsSomewhere ks id
  somewhere [] k id e = absurd (cc)
  somewhere (x ∷ ks) k id e = elim (front_or_behind (numbers x) (flat ks) k id e) [
    | inl here ↦ record { place = 0; stands = record { of = x; is = refl; at = k; here = here } }
    | inr later ↦
        let s = somewhere ks later.at id later.is in
        record { place = suc s.place; stands = record { of = s.stands.of; is = s.stands.is; at = s.stands.at; here = s.stands.here } }
  ]

  record StandsFlat (ks : List K) (id : ℕ) : Type 0 where
    at : ℕ
    is : slice_get (flat ks) at ≡ Some id

  stands_flat : (ks : List K) (place id : ℕ) → StandsIn ks place id → StandsFlat ks id
  stands_flat [] place id s = let none = s.is in absurd (cc)
  stands_flat (x ∷ ks) zero id s =
      let same : s.of ≡ x = let e = s.is in cc in
      record { at = s.at; is = in_front (numbers x) (flat ks) s.at id (subst (λ (k : K). slice_get (numbers k) s.at ≡ Some id) same s.here) }
  stands_flat (x ∷ ks) (suc place) id s =
      let f = stands_flat ks place id (record { of = s.of; is = s.is; at = s.at; here = s.here }) in
      record { at = length (numbers x) + f.at; is = behind (numbers x) (flat ks) f.at id f.is }

  -- what stands in two lists stands twice
  pub twice : (ks : List K) (m n id : ℕ) → m < n → StandsIn ks m id → StandsIn ks n id → StandsTwice (flat ks) id
  twice [] m n id lt s t = let none = s.is in absurd (cc)
  twice (x ∷ ks) zero zero id lt s t = absurd (omega arith)
  twice (x ∷ ks) (suc m) zero id lt s t = absurd (omega arith)
  twice (x ∷ ks) zero (suc n) id lt s t =
      let same : s.of ≡ x = let e = s.is in cc in
      let first = subst (λ (k : K). slice_get (numbers k) s.at ≡ Some id) same s.here in
      let later = stands_flat ks n id (record { of = t.of; is = t.is; at = t.at; here = t.here }) in
      let within = slice_get_within (numbers x) s.at id first in
      record {
        first = s.at;
        second = length (numbers x) + later.at;
        apart = omega (arith, within);
        at_first = in_front (numbers x) (flat ks) s.at id first;
        at_second = behind (numbers x) (flat ks) later.at id later.is;
      }
  twice (x ∷ ks) (suc m) (suc n) id lt s t =
      let w = twice ks m n id (omega (arith, lt)) (record { of = s.of; is = s.is; at = s.at; here = s.here }) (record { of = t.of; is = t.is; at = t.at; here = t.here }) in
      let apart = w.apart in
      record {
        first = length (numbers x) + w.first;
        second = length (numbers x) + w.second;
        apart = omega (arith, apart);
        at_first = behind (numbers x) (flat ks) w.first id w.at_first;
        at_second = behind (numbers x) (flat ks) w.second id w.at_second;
      }

  -- numbers that rise stand once
  rising_once : (xs : List ℕ) (i j id : ℕ) → IsStrictlyIncreasing xs → i < j → slice_get xs i ≡ Some id → slice_get xs j ≡ Some id → ⊥
  rising_once xs i j id up lt one other =
      let up' = rises_between xs up i j lt (slice_get_within xs j id other) in
      let a = get_or_from_slice_get xs i id 0 one in
      let b = get_or_from_slice_get xs j id 0 other in
      omega (arith, up', a, b)

  abbrev pub NeverInTwo : List K → Type 0
  NeverInTwo ks = (m n id : ℕ) → m < n → StandsIn ks m id → StandsIn ks n id → ⊥

  next_never : (x : K) (ks : List K) → NeverInTwo (x ∷ ks) → NeverInTwo ks
  next_never x ks never m n id lt s t =
      never (suc m) (suc n) id (omega (arith, lt)) (record { of = s.of; is = s.is; at = s.at; here = s.here }) (record { of = t.of; is = t.is; at = t.at; here = t.here })

  -- and where no number stands in two lists, none stands twice
  pub none_twice : (ks : List K) → All (λ k. IsStrictlyIncreasing (numbers k)) ks → NeverInTwo ks → NoneStandsTwice (flat ks)
  none_twice [] rise never id t = let none = t.at_first in absurd (cc)
  none_twice (x ∷ ks) rise never id t =
      by_places (none_twice ks (All-tail (λ k. IsStrictlyIncreasing (numbers k)) x ks rise) (next_never x ks never))
      (front_or_behind (numbers x) (flat ks) t.first id t.at_first) (front_or_behind (numbers x) (flat ks) t.second id t.at_second)
    where
      by_places : NoneStandsTwice (flat ks) → (slice_get (numbers x) t.first ≡ Some id) ⊎ StandsBehind (numbers x) (flat ks) t.first id →
          (slice_get (numbers x) t.second ≡ Some id) ⊎ StandsBehind (numbers x) (flat ks) t.second id → ⊥
      by_places none (inl a) (inl b) = rising_once (numbers x) t.first t.second id (All-head (λ k. IsStrictlyIncreasing (numbers k)) x ks rise) t.apart a b
      by_places none (inl a) (inr b) =
          let s = somewhere ks b.at id b.is in
          never 0 (suc s.place) id (omega arith) (record { of = x; is = refl; at = t.first; here = a })
          (record { of = s.stands.of; is = s.stands.is; at = s.stands.at; here = s.stands.here })
      by_places none (inr a) (inl b) =
          let within = slice_get_within (numbers x) t.second id b in
          let p = a.place in
          let apart = t.apart in
          omega (arith, within, p, apart)
      by_places none (inr a) (inr b) =
          let p = a.place in
          let q = b.place in
          let apart = t.apart in
          none id (record { first = a.at; second = b.at; apart = omega (arith, p, q, apart); at_first = a.is; at_second = b.is })

-- ---- ids and their numbers

module _ {X : Type 0} (number : X → ℕ) (same : (x y : X) → number x ≡ number y → x ≡ y) where
  record HasNumber (xs : List X) (at n : ℕ) : Type 0 where
    id : X
    is : slice_get xs at ≡ Some id
    number_is : number id ≡ n

  has_number : (xs : List X) (at n : ℕ) → slice_get (map number xs) at ≡ Some n → HasNumber xs at n
  has_number [] at n e = absurd (cc)
  has_number (x ∷ xs) zero n e = record { id = x; is = refl; number_is = cc }
  has_number (x ∷ xs) (suc at) n e = let h = has_number xs at n e in record { id = h.id; is = h.is; number_is = h.number_is }

  numbered_at : (xs : List X) (at : ℕ) (x : X) → slice_get xs at ≡ Some x → slice_get (map number xs) at ≡ Some (number x)
  numbered_at [] at x e = absurd (cc)
  numbered_at (y ∷ xs) zero x e = ap (λ z. Some (number z)) (let s : y ≡ x = cc in s)
  numbered_at (y ∷ xs) (suc at) x e = numbered_at xs at x e

  pub numbered : (xs : List X) (x : X) → (h : Contains xs x) → slice_get (map number xs) h.0 ≡ Some (number x)
  numbered xs x h = numbered_at xs h.0 x (slice_get-get_or xs h.0 x h.1 ∙ ap Some h.2)

  pub contains_from : (xs : List X) (at : ℕ) (x : X) → slice_get (map number xs) at ≡ Some (number x) → Contains xs x
  contains_from xs at x e =
      let h = has_number xs at (number x) e in
      let is : h.id ≡ x = same h.id x h.number_is in
      (at, slice_get_within xs at h.id h.is, get_or_from_slice_get xs at h.id x h.is ∙ is)

  -- in terms of ids: what no two of the lists have in common
  module _ {K : Type 0} (items : K → List X) where
    abbrev numbers : K → List ℕ
    numbers k = map number (items k)

    pub never_in_two : (ks : List K) → NoneStandsTwice (flat_map numbers ks) → (m n : ℕ) (a b : K) (x : X) → slice_get ks m ≡ Some a → slice_get ks n ≡ Some b →
        Contains (items a) x → Contains (items b) x → m ≡ n
    never_in_two ks none m n a b x is other here there =
        let s : StandsIn numbers ks m (number x) = record { of = a; is = is; at = here.0; here = numbered (items a) x here } in
        let t : StandsIn numbers ks n (number x) = record { of = b; is = other; at = there.0; here = numbered (items b) x there } in
        elim (cases_lt m n) [
          | inl lt ↦ absurd (none (number x) (twice numbers ks m n (number x) lt s t))
          | inr ge ↦ elim (cases_lt n m) [
            | inl lt ↦ absurd (none (number x) (twice numbers ks n m (number x) lt t s))
            | inr le ↦ omega (arith, ge, le)
          ]
        ]

    pub none_twice_in : (ks : List K) → All (λ k. IsStrictlyIncreasing (numbers k)) ks →
        ((m n : ℕ) (a b : K) (x : X) → slice_get ks m ≡ Some a → slice_get ks n ≡ Some b → Contains (items a) x → Contains (items b) x → m ≡ n) →
        NoneStandsTwice (flat_map numbers ks)
    none_twice_in ks rise apart = none_twice numbers ks rise never
      where
        never : (m n id : ℕ) → m < n → StandsIn numbers ks m id → StandsIn numbers ks n id → ⊥
        never m n id lt s t =
            let h = has_number (items s.of) s.at id s.here in
            let same_number : slice_get (map number (items s.of)) s.at ≡ Some (number h.id) = s.here ∙ ap Some (sym h.number_is) in
            let there : slice_get (map number (items t.of)) t.at ≡ Some (number h.id) = t.here ∙ ap Some (sym h.number_is) in
            let one : m ≡ n =
            apart m n s.of t.of h.id s.is t.is (contains_from (items s.of) s.at h.id same_number) (contains_from (items t.of) t.at h.id there) in
            omega (arith, one, lt)
