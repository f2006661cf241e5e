-- What a log answers of a front of a feed's bytes it answers of all that begin so.
use Rattle.std.proofs.Common.{◌≡◌, ℕ, ◌+◌, ◌⊎◌, inl, inr, ⊎_elim, List, [], ◌∷◌, ◌++◌, length, map, Some, refl, sym, ap, subst, ◌∙◌, arith, append_assoc, append-nil, length-append}
use Rattle.std.proofs.lemmas.List.{append_cancel_left, map-append, take_at}
use Rattle.std.proofs.lemmas.List.Elements.{All-head, All-tail, All-take}
use mathlib.Core.List.{IsPrefix}
use Rattle.dm_feed.specs.Feeds.{IsUnended}
use Rattle.dm_feed.specs.DueItems.{AreDueItems, DueItem, lines_of}
use Rattle.dm_feed.specs.Joined.{AreWhole}
use Rattle.dm_feed.proofs.Ahead.{due_items, same_items}
use Rattle.dm_feed.proofs.Joining.{items_joined, lines_joined}
use Rattle.dm_cert.specs.declared.replies.LogItem.{LogItem}
use Rattle.dm_cert.specs.Logs.{due_of}
use Rattle.dm_store.specs.Fronts.{front_of_front}
use Rattle.dm_tail.specs.Sources.{AnswersFront}
use Rattle.dm_catch_up.specs.Feeds.{HasNoLine, DiffersAt, IsOtherLine}
use Rattle.dm_lives.specs.Growth.{HasNotGrown}

-- ---- fronts

heads_same : {X : Type 0} {x y : X} {xs ys : List X} → x ∷ xs ≡ y ∷ ys → x ≡ y
heads_same e = cc

tails_same : {X : Type 0} {x y : X} {xs ys : List X} → x ∷ xs ≡ y ∷ ys → xs ≡ ys
tails_same e = cc

not_none : {X : Type 0} {x : X} {xs : List X} → x ∷ xs ≡ [] → ⊥
not_none e = cc

one_more : {X : Type 0} (x w y : X) (xs ys : List X) → x ≡ w → y ≡ w → IsPrefix xs ys → IsPrefix (x ∷ xs) (y ∷ ys)
one_more x w y xs ys e f p = (p.0, (let same : x ≡ y = e ∙ sym f in let more : xs ++ p.0 ≡ ys = p.1 in cc))

-- of two fronts of a list one is a front of the other
either_front : {X : Type 0} (one other whole : List X) → IsPrefix one whole → IsPrefix other whole → IsPrefix one other ⊎ IsPrefix other one
either_front [] other whole p q = inl (other, refl)
either_front (x ∷ xs) [] whole p q = inr (x ∷ xs, refl)
either_front (x ∷ xs) (y ∷ ys) [] p q = absurd (not_none p.1)
either_front (x ∷ xs) (y ∷ ys) (w ∷ ws) p q =
    ⊎_elim (λ r. inl (one_more x w y xs ys (heads_same p.1) (heads_same q.1) r)) (λ r. inr (one_more y w x ys xs (heads_same q.1) (heads_same p.1) r))
    (either_front xs ys ws (p.0, tails_same p.1) (q.0, tails_same q.1))

-- ---- due items

-- the due items of more lines begin with those of the first ones
due_longer : (front rest : List ℕ) (some all : List DueItem) → AreWhole front → AreDueItems 0 (lines_of front) some → AreDueItems 0 (lines_of (front ++ rest)) all → IsPrefix some all
due_longer front rest some all whole first both =
    let others = due_items (length (lines_of front)) (lines_of rest) in
    let behind : AreDueItems (0 + length (lines_of front)) (lines_of rest) others.items = subst (λ (n : ℕ). AreDueItems n (lines_of rest) others.items) (omega arith) others.are in
    let joined : AreDueItems 0 (lines_of front ++ lines_of rest) (some ++ others.items) = items_joined 0 (lines_of front) (lines_of rest) some others.items first behind in
    (others.items, same_items 0 (lines_of front ++ lines_of rest) (some ++ others.items) all joined (subst (λ (ls : List (List ℕ)). AreDueItems 0 ls all) (lines_joined front rest whole) both))

-- what comes next in two lists of which one is a front of the other
next_same : {X : Type 0} (same : List X) (x y : X) (xs ys : List X) → IsPrefix (same ++ x ∷ xs) (same ++ y ∷ ys) → x ≡ y
next_same [] x y xs ys p = heads_same p.1
next_same (z ∷ same) x y xs ys p = next_same same x y xs ys (p.0, tails_same p.1)

none_longer : {X : Type 0} (same : List X) (y : X) (ys : List X) → IsPrefix (same ++ y ∷ ys) same → ⊥
none_longer same y ys p = omega (arith, ap length p.1, length-append (same ++ y ∷ ys) p.0, length-append same (y ∷ ys))

-- ---- whole lines

none_right : (front rest : List ℕ) → front ++ rest ≡ [] → rest ≡ []
none_right [] rest e = e
none_right (x ∷ front) rest e = absurd (not_none e)

ends_not : (line : List ℕ) → IsUnended (line ++ 10 ∷ []) → ⊥
ends_not [] h = All-head (λ b. b ≡ 10 → ⊥) 10 [] h refl
ends_not (x ∷ line) h = ends_not line (All-tail (λ b. b ≡ 10 → ⊥) x (line ++ 10 ∷ []) h)

last_line : (front rest line : List ℕ) → front ++ rest ≡ line ++ 10 ∷ [] → IsUnended rest → rest ≡ []
last_line [] rest line e h = absurd (ends_not line (subst IsUnended e h))
last_line (x ∷ front) rest [] e h = none_right front rest (tails_same e)
last_line (x ∷ front) rest (y ∷ line) e h = last_line front rest line (tails_same e) h

-- whole lines end with no part of a line
whole_end : (front rest : List ℕ) → AreWhole (front ++ rest) → IsUnended rest → rest ≡ []
whole_end front rest (inl e) h = none_right front rest e
whole_end front rest (inr e) h = last_line front rest e.0 e.1 h

unended_front : (front rest : List ℕ) → IsUnended (front ++ rest) → IsUnended front
unended_front front rest h = subst IsUnended (take_at front rest (length front) refl) (All-take (λ b. b ≡ 10 → ⊥) (length front) (front ++ rest) h)

-- ---- a log of what a feed had given

module _ (had now : List ℕ) (items all : List LogItem) (line : ℕ) (longer : IsPrefix items all) (answers : AnswersFront (Some had) all) where
  -- the due items of the log are those of the first items, the next one's, and more
  log_is : (same : List LogItem) (next : LogItem) (later : List LogItem) → items ≡ same ++ next ∷ later → map due_of all ≡ map due_of same ++ due_of next ∷ map due_of (later ++ longer.0)
  log_is same next later split =
      ap (map due_of) (sym longer.1 ∙ (ap (λ (l : List LogItem). l ++ longer.0) split ∙ append_assoc same (next ∷ later) longer.0))
      ∙ map-append due_of same (next ∷ (later ++ longer.0))

  -- what the feed gives is no other line
  not_other : (whole : List ℕ) → IsPrefix had whole → IsPrefix now whole → (same : List LogItem) (next : LogItem) (later : List LogItem) → items ≡ same ++ next ∷ later → IsOtherLine now same next line → ⊥
  not_other whole was is same next later split o =
      let named = log_is same next later split in
      let more : List DueItem = map due_of (later ++ longer.0) in
      ⊎_elim
      (λ r. o.other (sym (next_same (map due_of same) o.due (due_of next) [] more (subst (IsPrefix (map due_of same ++ o.due ∷ [])) named
      (due_longer o.front r.0 (map due_of same ++ o.due ∷ []) (map due_of all) o.whole o.next_due (subst (λ (l : List ℕ). AreDueItems 0 (lines_of l) (map due_of all)) (sym r.1) answers.due))))))
      (λ r. o.other (next_same (map due_of same) (due_of next) o.due more [] (subst (λ (l : List DueItem). IsPrefix l (map due_of same ++ o.due ∷ [])) named
      (due_longer answers.front r.0 (map due_of all) (map due_of same ++ o.due ∷ []) answers.whole answers.due
      (subst (λ (l : List ℕ). AreDueItems 0 (lines_of l) (map due_of same ++ o.due ∷ [])) (sym r.1) o.next_due)))))
      (either_front o.front answers.front whole (front_of_front o.front now whole o.is_front is) (front_of_front answers.front had whole answers.is_front was))

  -- no line is missing of what the feed had given
  not_missing : IsPrefix had now → (same : List LogItem) (next : LogItem) (later : List LogItem) → items ≡ same ++ next ∷ later → HasNoLine now same next line → ⊥
  not_missing was same next later split n =
      let named = log_is same next later split in
      let more : List DueItem = map due_of (later ++ longer.0) in
      let here : IsPrefix n.front now = (n.rest, sym n.split) in
      let there : IsPrefix answers.front now = front_of_front answers.front had now answers.is_front was in
      let beyond : IsPrefix answers.front n.front → ⊥ = λ r. none_longer (map due_of same) (due_of next) more (subst (λ (l : List DueItem). IsPrefix l (map due_of same)) named
      (due_longer answers.front r.0 (map due_of all) (map due_of same) answers.whole answers.due (subst (λ (l : List ℕ). AreDueItems 0 (lines_of l) (map due_of same)) (sym r.1) n.due))) in
      ⊎_elim
      (λ r.
      let over : (n.front ++ r.0) ++ there.0 ≡ n.front ++ n.rest = ap (λ (l : List ℕ). l ++ there.0) r.1 ∙ (there.1 ∙ n.split) in
      let rest : r.0 ++ there.0 ≡ n.rest = append_cancel_left n.front (r.0 ++ there.0) n.rest (sym (append_assoc n.front r.0 there.0) ∙ over) in
      let none : r.0 ≡ [] = whole_end n.front r.0 (subst AreWhole (sym r.1) answers.whole) (unended_front r.0 there.0 (subst IsUnended (sym rest) n.unended)) in
      let same_front : answers.front ≡ n.front = sym r.1 ∙ (ap (λ (l : List ℕ). n.front ++ l) none ∙ append-nil n.front) in
      beyond ([], append-nil answers.front ∙ same_front))
      beyond
      (either_front n.front answers.front now here there)

  pub not_grown : DiffersAt now items line → HasNotGrown had now items line
  not_grown c = record {
    less = λ was. ⊎_elim (not_other now was ([], append-nil now) c.same c.next c.later c.split) (not_missing was c.same c.next c.later c.split) c.cause;
    out = λ is.
        ⊎_elim (λ o. absurd (not_other had ([], append-nil had) is c.same c.next c.later c.split o))
        (λ n. record { same = c.same; next = c.next; later = c.later; split = c.split; none = n }) c.cause;
  }
