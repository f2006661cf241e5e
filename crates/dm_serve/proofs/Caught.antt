-- Feeds that are opened, and that go on with their logs.
use Rattle.std.proofs.Common.{◌≡◌, ◌⊎◌, inl, inr, ℕ, List, [], ◌∷◌, ◌++◌, length, map, get_or, Option, Some, sym, ap, ◌∙◌, slice_get, All}
use Rattle.std.proofs.lemmas.List.{length-map, map-append}
use Rattle.std.proofs.lemmas.Option.{slice_get-get_or}
use Rattle.std.proofs.lemmas.Simd.{map-map}
use Rattle.dm_tail.specs.Sources.{source_in}
use Rattle.dm_tail.specs.declared.tail.Tail.{Tail}
use Rattle.dm_tail.specs.declared.watched.Watched.{Watched}
use Rattle.std.proofs.lemmas.Option.{slice_get-map}
use Rattle.std.specs.Option.{option_map}
use Rattle.dm_catch_up.specs.Catching.{IsFresh}
use Rattle.dm_serve.specs.Lives.{AreFeedsOf, NothingIsRead, source_of, tail_source}
use Rattle.dm_serve.specs.Inside.Stages.{tail_in}
use Rattle.dm_serve.specs.Inside.Opening.{AreUnread, opened}

-- what stands at a place of a list that is mapped
pub at_mapped : {X Y : Type 0} (f : X → Y) (xs : List X) (place : ℕ) (x : X) → slice_get xs place ≡ Some x → slice_get (map f xs) place ≡ Some (f x)
at_mapped f xs place x at = slice_get-map f xs place ∙ ap (option_map f) at

-- one feed more was opened
pub one_opened : {T : Type 0} (yielded : List (Option T)) (all now : List (Watched T)) (watched : Watched T) (feed : T) → watched.tail.feed ≡ feed → now ≡ all ++ watched ∷ [] → yielded ≡ map opened all
    → yielded ++ Some feed ∷ [] ≡ map opened now
one_opened yielded all now watched feed here is so_far =
    ap (λ (l : List (Option _)). l ++ Some feed ∷ []) so_far
    ∙ (ap (λ (f : _). map opened all ++ Some f ∷ []) (sym here) ∙ (sym (map-append opened all (watched ∷ [])) ∙ ap (map opened) (sym is)))

-- as many were opened as feeds were gone through
pub as_many_opened : {T : Type 0} (yielded : List (Option T)) (all : List (Watched T)) → yielded ≡ map opened all → length all ≡ length yielded
as_many_opened yielded all so_far = sym (length-map all opened) ∙ ap length (sym so_far)

-- feeds of which nothing was read
pub all_fresh : {T : Type 0} (given : T → Option (List ℕ)) (feeds : List (Option T)) (unread : List (Watched T)) → NothingIsRead given feeds → AreUnread feeds unread → All (IsFresh given) unread
all_fresh given feeds unread none are = λ place d low.
    let w = get_or unread place d in
    let one = are.each place d low in
    record {
      none = none place w.tail.feed (ap (λ (l : List (Option _)). slice_get l place) are.are ∙ at_mapped opened unread place w (slice_get-get_or unread place d low));
      pending = one.pending;
      taken = one.taken;
      knows = one.knows;
      lines = one.lines;
    }

-- the sources of feeds that were opened
pub same_sources : {T : Type 0} (source : T → Option (List ℕ)) (feeds : List (Option T)) (unread : List (Watched T)) → AreUnread feeds unread → map (source_of source) feeds ≡ map (source_in source) unread
same_sources source feeds unread are = ap (map (source_of source)) are.are ∙ map-map (source_of source) opened unread

-- the feeds at an end have the sources that they had
pub feeds_of : {T : Type 0} (source : T → Option (List ℕ)) (sources : List (Option (List ℕ))) (feeds : List (Watched T)) (tails : List (Tail T)) → map (source_in source) feeds ≡ sources → (tails ≡ []) ⊎ (tails ≡ map tail_in feeds) → AreFeedsOf source sources tails
feeds_of source sources feeds tails same (inl none) = inl none
feeds_of source sources feeds tails same (inr are) = inr (ap (map (tail_source source)) are ∙ (map-map (tail_source source) tail_in feeds ∙ same))
