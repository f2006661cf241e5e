-- Feeds that were synced: what is known of them is the same.
use Rattle.std.proofs.Common.{◌≡◌, ℕ, ◌+◌, ◌<◌, inl, inr, List, length, get_or, map, Option, sym, ap, subst, ◌∙◌, arith}
use Rattle.std.proofs.lemmas.Bool.{cases_lt}
use Rattle.std.proofs.lemmas.List.{get_or_default}
use Rattle.std.proofs.lemmas.Simd.{map-map}
use Rattle.dm_tail.specs.declared.watched.Watched.{Watched}
use Rattle.dm_watch.specs.Settled.{LogParts, log_parts}

pub same_of : {T Y : Type 0} (given : T → Option (List ℕ)) (feeds now : List (Watched T)) → map (log_parts given) now ≡ map (log_parts given) feeds → (f : LogParts → Y) → map (λ w. f (log_parts given w)) now ≡ map (λ w. f (log_parts given w)) feeds
same_of given feeds now same f = sym (map-map f (log_parts given) now) ∙ (ap (map f) same ∙ map-map f (log_parts given) feeds)

-- what holds of each element before one, and of it, holds of each up to it
pub more_below : {X : Type 0} (P : X → Type 0) (xs : List X) (i : ℕ) (x : X) → i < length xs → x ≡ get_or xs i x → ((k : ℕ) (d : X) → k < i → P (get_or xs k d)) → P x → (k : ℕ) (d : X) → k < i + 1 → P (get_or xs k d)
more_below P xs i x low is so_far here k d lt =
    elim (cases_lt k i) [
      | inl less ↦ so_far k d less
      | inr other ↦ let same : k ≡ i = omega arith in subst (λ (n : ℕ). P (get_or xs n d)) (sym same) (subst P (is ∙ get_or_default xs i x d low) here)
    ]
