-- Items of places that pass a test, and of those among them that pass another.
use Rattle.std.proofs.Common.{◌≡◌, ℕ, Bool, true, List, [], ◌∷◌, ◌++◌, map, refl, sym, ap, subst, inl, inr, arith}
use Rattle.std.specs.Prelude.{filter, Contains, ◌&&◌}
use Rattle.std.specs.List.{filter_map}
use Rattle.std.proofs.lemmas.Bool.{cases_Bool}
use Rattle.std.proofs.lemmas.List.Elements.{Contains-append_right}
use Rattle.dm_rows.specs.declared.messages.Choice.{Choice}
use Rattle.dm_rows.specs.declared.messages.Decision.{Decision}
use Rattle.dm_tree.specs.Plans.{AreSomeOf}
use Rattle.dm_stretch.specs.Inside.Standing.{standing}

-- gathered place by place, they are the items of those that pass
pub gathered : (test : ℕ → Bool) (f : ℕ → Decision) (places : List ℕ) →
    filter_map (λ a. standing (test a) (f a)) places ≡ map f (filter test places)
gathered test f [] = refl
gathered test f (a ∷ places) =
    elim (cases_Bool (test a)) [
      | inl t ↦ rw t (ap (λ ds. f a ∷ ds) (gathered test f places))
      | inr t ↦ rw t (gathered test f places)
    ]

-- of the items of places that pass, those are kept that pass a test which says what another test says of their place
pub kept_of_map : (f : ℕ → Choice) (test within : ℕ → Bool) (p : Choice → Bool) (places : List ℕ) →
    ((a : ℕ) → Contains places a → test a ≡ true → p (f a) ≡ within a) →
    filter p (map f (filter test places)) ≡ map f (filter (λ a. test a && within a) places)
kept_of_map f test within p [] says = refl
kept_of_map f test within p (a ∷ places) says =
    let later = kept_of_map f test within p places (λ b h. says b (Contains-append_right (a ∷ []) places b h)) in
    elim (cases_Bool (test a)) [
      | inl t ↦
          let same : p (f a) ≡ within a = says a (0, omega arith, refl) t in
          elim (cases_Bool (within a)) [
            | inl w ↦ rw (t, same, w) (ap (λ cs. f a ∷ cs) later)
            | inr w ↦ rw (t, same, w) later
          ]
      | inr t ↦ rw t later
    ]

some_later : (x : Choice) (xs chosen : List Choice) → AreSomeOf xs chosen → AreSomeOf (x ∷ xs) chosen
some_later x xs [] h = tt
some_later x xs (c ∷ chosen) h = inr h

-- the items of places that pass another test beside are some of all
pub some_places : (f : ℕ → Choice) (test other : ℕ → Bool) (places : List ℕ) →
    AreSomeOf (map f (filter test places)) (map f (filter (λ a. test a && other a) places))
some_places f test other [] = refl
some_places f test other (a ∷ places) =
    let later = some_places f test other places in
    elim (cases_Bool (test a)) [
      | inl t ↦ elim (cases_Bool (other a)) [
        | inl o ↦ rw (t, o) (inl (refl, later))
        | inr o ↦ rw (t, o) (some_later (f a) (map f (filter test places)) (map f (filter (λ b. test b && other b) places)) later)
      ]
      | inr t ↦ rw t later
    ]

-- some of one list, and behind them some of another
pub some_of_both : (xs ys chosen others : List Choice) → AreSomeOf xs chosen → AreSomeOf ys others → AreSomeOf (xs ++ ys) (chosen ++ others)
some_of_both [] ys chosen others some more = subst (λ cs. AreSomeOf ys (cs ++ others)) (sym some) more
some_of_both (x ∷ xs) ys [] others some more = some_later x (xs ++ ys) others (some_of_both xs ys [] others (some_of_none xs) more)
  where
    some_of_none : (xs : List Choice) → AreSomeOf xs []
    some_of_none [] = refl
    some_of_none (x ∷ xs) = tt
some_of_both (x ∷ xs) ys (c ∷ chosen) others (inl both) more = inl (both.0, some_of_both xs ys chosen others both.1 more)
some_of_both (x ∷ xs) ys (c ∷ chosen) others (inr later) more = inr (some_of_both xs ys (c ∷ chosen) others later more)
