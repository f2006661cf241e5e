-- How long the lists are.
use Rattle.std.proofs.Common.{ℕ, ◌≡◌, ◌+◌, ◌-◌, ◌*◌, ◌≤◌, ◌<◌, ◌^◌, List, [], ◌∷◌, ◌++◌, map, length, zero, suc, refl, ap, ◌∙◌, arith, length-append}
use Rattle.std.specs.List.{flat_map, range_with_len}
use Rattle.std.proofs.lemmas.List.FromFn.{length-map-range_with_len}
use Rattle.dm_gen.specs.declared.links.Link.{Link}
use Rattle.dm_gen.specs.Trains.{events_of_train, events_of}
use Rattle.dm_gen.specs.Activities.{change, links_of_train, headways_of_train, links_of, numbered_from, activities_of}
use Rattle.dm_gen.specs.Feed.{feed_line, feed_of}
use Rattle.dm_gen.specs.Laws.{FirstOfSeven, Sizes}

-- lists of one length, joined
pub same_lengths : {X : Type 0} → (f : ℕ → List X) (size : ℕ) → ((k : ℕ) → length (f k) ≡ size)
    → (a n : ℕ) → length (flat_map f (range_with_len a n)) ≡ size * n
same_lengths f size each a zero = omega arith
same_lengths f size each a (suc n) =
    length-append (f a) (flat_map f (range_with_len (a + 1) n))
    ∙ (let first : length (f a) ≡ size = each a in
    let rest : length (flat_map f (range_with_len (a + 1) n)) ≡ size * n = same_lengths f size each (a + 1) n in
    omega arith)

pub train_events : (k : ℕ) → length (events_of_train k) ≡ 20
unfolding events_of_train
train_events k = refl

pub train_links : (k : ℕ) → length (links_of_train k) ≡ 19
unfolding links_of_train
train_links k = refl

pub train_headways : (k : ℕ) → length (headways_of_train k) ≡ 20
unfolding headways_of_train
train_headways k = refl

pub events_count : (n : ℕ) → length (events_of n) ≡ 20 * n
unfolding events_of
events_count n = same_lengths events_of_train 20 train_events 0 n

pub links_count : (n : ℕ) → length (links_of n) ≡ 19 * n + 20 * (n - 8) + (n - 1)
unfolding links_of
links_count n =
    let own : length (flat_map links_of_train (range_with_len 0 n)) ≡ 19 * n = same_lengths links_of_train 19 train_links 0 n in
    let headways : length (flat_map headways_of_train (range_with_len 0 (n - 8))) ≡ 20 * (n - 8) =
    same_lengths headways_of_train 20 train_headways 0 (n - 8) in
    let changes : length (map change (range_with_len 0 (n - 1))) ≡ n - 1 = length-map-range_with_len change 0 (n - 1) in
    length-append (flat_map links_of_train (range_with_len 0 n) ++ flat_map headways_of_train (range_with_len 0 (n - 8))) (map change (range_with_len 0 (n - 1)))
    ∙ ap (λ m. m + length (map change (range_with_len 0 (n - 1))))
    (length-append (flat_map links_of_train (range_with_len 0 n)) (flat_map headways_of_train (range_with_len 0 (n - 8))))
    ∙ omega (arith, own, headways, changes)

pub numbered_count : (id : ℕ) (links : List Link) → length (numbered_from id links) ≡ length links
numbered_count id [] = refl
numbered_count id (link ∷ links) = ap suc (numbered_count (id + 1) links)

pub activities_count : (n : ℕ) → length (activities_of n) ≡ 19 * n + 20 * (n - 8) + (n - 1)
unfolding activities_of
activities_count n = numbered_count 1 (links_of n) ∙ links_count n

pub feed_count : (number n : ℕ) → length (feed_of number n) ≡ 500
unfolding feed_of
feed_count number n = length-map-range_with_len (feed_line number n) 0 500

-- so few that their ids fit
pub few_links : (n : ℕ) → n ≤ 2000 → length (links_of n) < 2 ^ 32
few_links n most = let count : length (links_of n) ≡ 19 * n + 20 * (n - 8) + (n - 1) = links_count n in omega arith

pub first_of_seven : FirstOfSeven
first_of_seven = record { state = refl; shifted = refl; line = refl }

pub sizes : Sizes
sizes =
    record { events = events_count; activities = activities_count; feed = feed_count; of_one = activities_count 1; of_most = activities_count 2000 }
