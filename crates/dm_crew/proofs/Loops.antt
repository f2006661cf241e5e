-- Loops over lists that are taken apart and put together.
use Rattle.std.proofs.Common.{◌≡◌, ℕ, zero, suc, ◌+◌, ◌-◌, ◌<◌, get_or, inl, inr, List, [], ◌∷◌, ◌++◌, length, map, Some, Result, Ok, refl, sym, ap, subst, ◌∙◌, arith, append_assoc, append-nil, length-append, slice_get, All}
use Rattle.std.specs.Prelude.{IsOk}
use Rattle.std.proofs.lemmas.List.{map-append, nil_from_length, get_or_append_left, get_or-append_right}
use Rattle.std.proofs.lemmas.List.Elements.{All-push}
use Rattle.std.proofs.lemmas.Simd.{map-map}
use Rattle.std.proofs.lemmas.Option.{slice_get_within}
use Rattle.std.proofs.Math.Seq.{get_or-append_seam}
use Rattle.dm_rounds.proofs.Places.{behind_push}
use Rattle.dm_server.specs.declared.kept.Base.{Base}
use Rattle.dm_turn.specs.Passes.{PassValue}

pub one_yielded : {X : Type 0} (yielded rest next whole : List X) (x : X) → rest ≡ x ∷ next → yielded ++ rest ≡ whole → (yielded ++ x ∷ []) ++ next ≡ whole
one_yielded yielded rest next whole x is all = append_assoc yielded (x ∷ []) next ∙ (ap (λ (l : List _). yielded ++ l) (sym is) ∙ all)

pub all_yielded : {X : Type 0} (yielded rest whole : List X) → length rest ≡ 0 → yielded ++ rest ≡ whole → yielded ≡ whole
all_yielded yielded rest whole none all = sym (append-nil yielded) ∙ (ap (λ (l : List _). yielded ++ l) (sym (nil_from_length rest none)) ∙ all)

pub some_left : {X : Type 0} (yielded rest next whole : List X) (x : X) → rest ≡ x ∷ next → yielded ++ rest ≡ whole → length yielded < length whole
some_left yielded rest next whole x is all = omega (arith, ap length all, length-append yielded rest, ap length is)

pub mapped_more : {X Y : Type 0} (f : X → Y) (xs now : List X) (x : X) (ys : List Y) → now ≡ xs ++ x ∷ [] → map f xs ≡ ys → map f now ≡ ys ++ f x ∷ []
mapped_more f xs now x ys is m = ap (map f) is ∙ (map-append f xs (x ∷ []) ∙ ap (λ (l : List _). l ++ f x ∷ []) m)

pub all_more : {X : Type 0} (P : X → Type 0) (xs now : List X) (x : X) → now ≡ xs ++ x ∷ [] → All P xs → P x → All P now
all_more P xs now x is all p = subst (All P) (sym is) (All-push P xs x all p)

pub numbered_more : {X : Type 0} (f : X → ℕ) (xs now : List X) (x : X) → now ≡ xs ++ x ∷ [] → f x ≡ length xs + 1 → ((k : ℕ) (y : X) → slice_get xs k ≡ Some y → f y ≡ k + 1) → (k : ℕ) (y : X) → slice_get now k ≡ Some y → f y ≡ k + 1
numbered_more f xs now x is last each k y e =
    elim (behind_push xs x k y (ap (λ (l : List _). slice_get l k) (sym is) ∙ e)) [
      | inl old ↦ each k y old
      | inr new ↦ ap f new.1 ∙ (last ∙ ap (λ (n : ℕ). n + 1) (sym new.0))
    ]

pub one_split : (start main next : PassValue Base) (n m : ℕ) → main ≡ record start { room = start.room - n } → next ≡ record main { room = main.room - 1 } → m ≡ n + 1 → next ≡ record start { room = start.room - m }
one_split start main next n m is split more =
    let room : start.room - n - 1 ≡ start.room - m = omega (arith, more) in
    split ∙ (ap (λ (p : PassValue Base). record p { room = p.room - 1 }) is ∙ ap (λ (r : ℕ). record start { room = r }) room)

pub mapped_push : {X Y : Type 0} (f : X → Y) (yielded : List X) (x : X) (ys now : List Y) → now ≡ ys ++ f x ∷ [] → ys ≡ map f yielded → now ≡ map f (yielded ++ x ∷ [])
mapped_push f yielded x ys now is m = is ∙ (ap (λ (l : List _). l ++ f x ∷ []) m ∙ sym (map-append f yielded (x ∷ [])))

pub all_here : {X : Type 0} (P : X → Type 0) (yielded rest next whole : List X) (x : X) → rest ≡ x ∷ next → yielded ++ rest ≡ whole → All P whole → P x
all_here P yielded rest next whole x is all h =
    let there : whole ≡ yielded ++ x ∷ next = sym all ∙ ap (λ (l : List _). yielded ++ l) is in
    let whole_there : All P (yielded ++ x ∷ next) = subst (All P) there h in
    subst P (get_or-append_seam yielded x next x) (whole_there (length yielded) x (omega (arith, length-append yielded (x ∷ next))))

pub is_ok_of : {T E : Type 0} (answer : Result T E) (x : T) → answer ≡ Ok x → IsOk answer
is_ok_of answer x is = subst (λ (a : Result _ _). IsOk a) (sym is) refl

-- two lists of as many elements that are related each to each, with one more at each end
pub paired_more : {X Y : Type 0} (R : X → Y → Type 0) (xs : List X) (ys now : List Y) (x : X) (y : Y) → now ≡ ys ++ y ∷ [] → length ys ≡ length xs
    → ((k : ℕ) (w : X) (v : Y) → slice_get xs k ≡ Some w → slice_get ys k ≡ Some v → R w v) → R x y
    → (k : ℕ) (w : X) (v : Y) → slice_get (xs ++ x ∷ []) k ≡ Some w → slice_get now k ≡ Some v → R w v
paired_more R xs ys now x y is many each last k w v at there =
    let behind = behind_push ys y k v (ap (λ (l : List _). slice_get l k) (sym is) ∙ there) in
    elim (behind_push xs x k w at) [
      | inl old ↦ elim behind [
        | inl kept ↦ each k w v old kept
        | inr new ↦ absurd (omega (arith, slice_get_within xs k w old, new.0, many))
      ]
      | inr last_x ↦ elim behind [
        | inl kept ↦ absurd (omega (arith, slice_get_within ys k v kept, last_x.0, many))
        | inr last_y ↦ subst (λ (a : _). R a v) (sym last_x.1) (subst (λ (b : _). R x b) (sym last_y.1) last)
      ]
    ]

-- what is mapped twice is mapped by the one after the other
pub both_mapped : {X Y Z : Type 0} (f : X → Y) (g : Y → Z) (xs : List X) (ys : List Y) → map f xs ≡ ys → map (λ x. g (f x)) xs ≡ map g ys
both_mapped f g xs ys is = sym (map-map g f xs) ∙ ap (map g) is

-- two lists of as many elements that are related each to each, with two more such lists behind them
paired_both : {X Y : Type 0} (R : X → Y → Type 0) (xs more : List X) (ys behind : List Y) → length ys ≡ length xs
    → ((k : ℕ) (w : X) (v : Y) → slice_get xs k ≡ Some w → slice_get ys k ≡ Some v → R w v)
    → ((k : ℕ) (w : X) (v : Y) → slice_get more k ≡ Some w → slice_get behind k ≡ Some v → R w v)
    → (k : ℕ) (w : X) (v : Y) → slice_get (xs ++ more) k ≡ Some w → slice_get (ys ++ behind) k ≡ Some v → R w v
paired_both R [] more [] behind many each rest k w v at there = rest k w v at there
paired_both R [] more (y ∷ ys) behind many each rest k w v at there = absurd (omega (arith, many))
paired_both R (x ∷ xs) more [] behind many each rest k w v at there = absurd (omega (arith, many))
paired_both R (x ∷ xs) more (y ∷ ys) behind many each rest zero w v at there = each 0 w v at there
paired_both R (x ∷ xs) more (y ∷ ys) behind many each rest (suc k) w v at there = paired_both R xs more ys behind (omega (arith, many)) (λ i a b p q. each (suc i) a b p q) rest k w v at there

-- the same of lists that are cut in two and put together
pub paired_parts : {X Y : Type 0} (R : X → Y → Type 0) (works share rest : List X) (after worked behind : List Y) → share ++ rest ≡ works → after ≡ worked ++ behind → length worked ≡ length share
    → ((k : ℕ) (w : X) (v : Y) → slice_get share k ≡ Some w → slice_get worked k ≡ Some v → R w v)
    → ((k : ℕ) (w : X) (v : Y) → slice_get rest k ≡ Some w → slice_get behind k ≡ Some v → R w v)
    → (k : ℕ) (w : X) (v : Y) → slice_get works k ≡ Some w → slice_get after k ≡ Some v → R w v
paired_parts R works share rest after worked behind cut is many front back k w v at there =
    paired_both R share rest worked behind many front back k w v (ap (λ (l : List _). slice_get l k) cut ∙ at) (ap (λ (l : List _). slice_get l k) (sym is) ∙ there)

-- what holds of all elements of two lists together holds of those of each
pub all_of_front : {X : Type 0} (P : X → Type 0) (xs more whole : List X) → xs ++ more ≡ whole → All P whole → All P xs
all_of_front P xs more whole is all k d lt = subst P (get_or_append_left xs more d k lt) (subst (All P) (sym is) all k d (omega (arith, lt, length-append xs more)))

pub all_of_rest : {X : Type 0} (P : X → Type 0) (xs more whole : List X) → xs ++ more ≡ whole → All P whole → All P more
all_of_rest P xs more whole is all k d lt =
    let at : length xs + k - length xs ≡ k = omega arith in
    subst (λ (i : ℕ). P (get_or more i d)) at
    (subst P (get_or-append_right xs more (length xs) (length xs + k) d refl (omega arith)) (subst (All P) (sym is) all (length xs + k) d (omega (arith, lt, length-append xs more))))
