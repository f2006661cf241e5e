-- Lists that grow by what belongs to the next index.
use Rattle.std.proofs.Common.{ℕ, ◌≡◌, ◌+◌, ◌*◌, List, [], ◌∷◌, ◌++◌, map, suc, sym, ap, ◌∙◌, arith, append_assoc}
use Rattle.std.specs.List.{flat_map, range_with_len}
use Rattle.std.proofs.lemmas.List.{flat_map_more, map-id}
use Rattle.std.proofs.lemmas.List.FromFn.{map-range_with_len_more}
use Rattle.dm_rows.specs.declared.messages.Message.TheVariants.{DelayEvent}
use Rattle.dm_feed.specs.declared.grammar.Line.{Line}
use Rattle.dm_feed.specs.declared.grammar.Line.TheVariants.{Say}
use Rattle.dm_gen.specs.Draws.{next_state, state_after, drawn_below}
use Rattle.dm_gen.specs.Feed.{feed_line, feed_of}

pub range_more : (n : ℕ) → range_with_len 0 (n + 1) ≡ range_with_len 0 n ++ n ∷ []
range_more n =
    sym (map-id (range_with_len 0 (n + 1))) ∙ map-range_with_len_more (λ x. x) 0 n n (omega arith)
    ∙ ap (λ r. r ++ n ∷ []) (map-id (range_with_len 0 n))

-- behind a list, what belongs to the next index
pub more_lists : {X : Type 0} → (f : ℕ → List X) (before now new : List X) (n : ℕ) → new ≡ now ++ f n
    → now ≡ before ++ flat_map f (range_with_len 0 n) → new ≡ before ++ flat_map f (range_with_len 0 (n + 1))
more_lists f before now new n grown was =
    grown ∙ ap (λ r. r ++ f n) was ∙ flat_map_more f before (range_with_len 0 n) n
    ∙ ap (λ r. before ++ flat_map f r) (sym (range_more n))

pub more_pairs : {X : Type 0} → (f : ℕ → List X) (before now mid new : List X) (n : ℕ) (x y : X) → mid ≡ now ++ x ∷ []
    → new ≡ mid ++ y ∷ [] → x ∷ y ∷ [] ≡ f n → now ≡ before ++ flat_map f (range_with_len 0 n)
    → new ≡ before ++ flat_map f (range_with_len 0 (n + 1))
more_pairs f before now mid new n x y first second is was =
    more_lists f before now new n
    (second ∙ ap (λ r. r ++ y ∷ []) first ∙ append_assoc now (x ∷ []) (y ∷ []) ∙ ap (λ r. now ++ r) is) was

-- two items pushed, one behind the other
pub two_behind : {X : Type 0} → (now mid new : List X) (x y a b : X) → new ≡ mid ++ y ∷ [] → mid ≡ now ++ x ∷ [] → x ≡ a → y ≡ b
    → new ≡ now ++ a ∷ b ∷ []
two_behind now mid new x y a b second first one other =
    second ∙ ap (λ r. r ++ y ∷ []) first ∙ append_assoc now (x ∷ []) (y ∷ []) ∙ ap (λ v. now ++ v ∷ y ∷ []) one
    ∙ ap (λ v. now ++ a ∷ v ∷ []) other

pub more_items : {X : Type 0} → (f : ℕ → X) (before now new : List X) (n : ℕ) (x : X) → new ≡ now ++ x ∷ [] → x ≡ f n
    → now ≡ before ++ map f (range_with_len 0 n) → new ≡ before ++ map f (range_with_len 0 (n + 1))
more_items f before now new n x grown is was =
    grown ∙ ap (λ r. r ++ x ∷ []) was ∙ ap (λ y. (before ++ map f (range_with_len 0 n)) ++ y ∷ []) is
    ∙ append_assoc before (map f (range_with_len 0 n)) (f n ∷ [])
    ∙ ap (λ r. before ++ r) (sym (map-range_with_len_more f 0 n n (omega arith)))

pub one_draw : (number n : ℕ) → next_state (state_after number (2 * n)) ≡ state_after number (2 * n + 1)
one_draw number n = let e : suc (2 * n) ≡ 2 * n + 1 = omega arith in ap (λ m. state_after number m) e

pub two_draws : (number n : ℕ) → next_state (next_state (state_after number (2 * n))) ≡ state_after number (2 * n + 2)
two_draws number n = let e : suc (suc (2 * n)) ≡ 2 * n + 2 = omega arith in ap (λ m. state_after number m) e

pub next_draws : (number n old new : ℕ) → new ≡ next_state (next_state old) → old ≡ state_after number (2 * n)
    → new ≡ state_after number (2 * (n + 1))
next_draws number n old new moved was =
    moved ∙ ap (λ s. next_state (next_state s)) was ∙ two_draws number n
    ∙ (let e : 2 * n + 2 ≡ 2 * (n + 1) = omega arith in ap (λ m. state_after number m) e)

abbrev line_of : ℕ → ℕ → ℕ → Line
line_of trains one two = Say (DelayEvent (record { 0 = drawn_below (20 * trains) one + 1 }) (drawn_below 900 two + 1))

pub line_drawn : (number trains n old new : ℕ) (line : Line)
    → line ≡ Say (DelayEvent (record { 0 = drawn_below (20 * trains) (next_state old) + 1 }) (drawn_below 900 new + 1))
    → new ≡ next_state (next_state old) → old ≡ state_after number (2 * n) → line ≡ feed_line number trains n
line_drawn number trains n old new line said moved was =
    said ∙ ap (λ s. line_of trains (next_state old) s) (moved ∙ ap (λ s. next_state (next_state s)) was ∙ two_draws number n)
    ∙ ap (λ s. line_of trains s (state_after number (2 * n + 2))) (ap next_state was ∙ one_draw number n)

pub feed_whole : (number trains n : ℕ) (lines : List Line) → n ≡ 500 → lines ≡ map (feed_line number trains) (range_with_len 0 n)
    → lines ≡ feed_of number trains
unfolding feed_of
feed_whole number trains n lines e are = are ∙ ap (λ m. map (feed_line number trains) (range_with_len 0 m)) e
