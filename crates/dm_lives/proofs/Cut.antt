-- A log that answers a front of bytes, cut to its first items, answers a front of them.
use Rattle.std.proofs.Common.{◌≡◌, inl, inr, ℕ, zero, suc, ◌+◌, ◌<◌, ◌≤◌, List, [], ◌∷◌, ◌++◌, length, map, Option, None, Some, refl, sym, ap, subst, ◌∙◌, arith, append_assoc, append-nil, length-append, get_or}
use Rattle.std.specs.Prelude.{IfSome}
use Rattle.std.proofs.lemmas.Bool.{cases_eq}
use Rattle.std.proofs.lemmas.List.{map-append}
use Rattle.std.proofs.lemmas.List.Elements.{All-nil, All-cons}
use Rattle.std.proofs.lemmas.Option.{slice_get-get_or, slice_get_within, get_or_from_slice_get}
use mathlib.Core.List.{IsPrefix}
use Rattle.dm_feed.specs.Feeds.{IsUnended, ended, without_return}
use Rattle.dm_feed.specs.DueItems.{AreDueItems, DueItem, item, lines_of}
use Rattle.dm_feed.specs.Joined.{AreWhole}
use Rattle.dm_feed.proofs.Ahead.{line_more}
use Rattle.dm_cert.specs.declared.replies.LogItem.{LogItem}
use Rattle.dm_cert.specs.Logs.{due_of}
use Rattle.dm_tail.specs.Sources.{AnswersFront}
use Rattle.dm_book.proofs.Growing.{as_many}
use Rattle.dm_lives.specs.Growth.{FrontsAnswer}
use Rattle.dm_lives.proofs.Refusals.{fronts_at}

-- ---- the first line of whole lines

tails : {X : Type 0} {x y : X} {xs ys : List X} → x ∷ xs ≡ y ∷ ys → xs ≡ ys
tails e = cc

heads : {X : Type 0} {x y : X} {xs ys : List X} → x ∷ xs ≡ y ∷ ys → x ≡ y
heads e = cc

no_head : {X : Type 0} {x : X} {xs : List X} → x ∷ xs ≡ [] → ⊥
no_head e = cc

behind_whole : (x : ℕ) (xs : List ℕ) → AreWhole (x ∷ xs) → AreWhole xs
behind_whole x xs (inl none) = absurd (no_head none)
behind_whole x xs (inr ([], e)) = inl (tails e)
behind_whole x xs (inr (y ∷ line, e)) = inr (line, tails e)

-- a byte that ends no line is not the last of whole lines
some_behind : (x : ℕ) → (x ≡ 10 → ⊥) → AreWhole (x ∷ []) → ⊥
some_behind x other (inl none) = no_head none
some_behind x other (inr ([], e)) = other (heads e)
some_behind x other (inr (y ∷ line, e)) = omega (arith, ap length (tails e), length-append line (10 ∷ []))

record FirstLine (bytes : List ℕ) : Type 0 where
  line : List ℕ
  behind : List ℕ
  cut : bytes ≡ ended line ++ behind
  unended : IsUnended line
  whole : AreWhole behind

first_line : (x : ℕ) (xs : List ℕ) → AreWhole (x ∷ xs) → FirstLine (x ∷ xs)
first_line x [] whole =
    elim (cases_eq x 10) [
      | inl ends ↦ record { line = []; behind = []; cut = ap (λ (b : ℕ). b ∷ []) ends; unended = All-nil (λ b. b ≡ 10 → ⊥); whole = inl refl }
      | inr other ↦ absurd (some_behind x other whole)
    ]
first_line x (y ∷ xs) whole =
    elim (cases_eq x 10) [
      | inl ends ↦ record { line = []; behind = y ∷ xs; cut = ap (λ (b : ℕ). b ∷ y ∷ xs) ends; unended = All-nil (λ b. b ≡ 10 → ⊥); whole = behind_whole x (y ∷ xs) whole }
      | inr other ↦
          let next = first_line y xs (behind_whole x (y ∷ xs) whole) in
          record {
            line = x ∷ next.line;
            behind = next.behind;
            cut = ap (λ (l : List ℕ). x ∷ l) next.cut;
            unended = All-cons (λ b. b ≡ 10 → ⊥) x next.line other next.unended;
            whole = next.whole;
          }
    ]

-- ---- the lines of the first items

whole_more : (line cut : List ℕ) → AreWhole cut → AreWhole (ended line ++ cut)
whole_more line cut (inl none) = inr (line, ap (λ (l : List ℕ). ended line ++ l) none ∙ append-nil (ended line))
whole_more line cut (inr (front, e)) = inr (ended line ++ front, ap (λ (l : List ℕ). ended line ++ l) e ∙ sym (append_assoc (ended line) front (10 ∷ [])))

-- whole lines in front, whose due items are these
record HasFront (front : List ℕ) (passed : ℕ) (items : List DueItem) : Type 0 where
  cut : List ℕ
  rest : List ℕ
  split : cut ++ rest ≡ front
  whole : AreWhole cut
  due : AreDueItems passed (lines_of cut) items

-- with one line before them
one_before : (bytes : List ℕ) (f : FirstLine bytes) (passed : ℕ) (items others : List DueItem) (r : HasFront f.behind (passed + 1) others)
    → AreDueItems passed (without_return f.line ∷ lines_of r.cut) items → HasFront bytes passed items
one_before bytes f passed items others r due = record {
  cut = ended f.line ++ r.cut;
  rest = r.rest;
  split = append_assoc (ended f.line) r.cut r.rest ∙ (ap (λ (l : List ℕ). ended f.line ++ l) r.split ∙ sym f.cut);
  whole = whole_more f.line r.cut r.whole;
  due = subst (λ (ls : List (List ℕ)). AreDueItems passed ls items) (sym (line_more f.line r.cut f.unended)) due;
}

first_front : (fuel : ℕ) (front : List ℕ) (passed : ℕ) (items more : List DueItem) → length front ≤ fuel → AreWhole front → AreDueItems passed (lines_of front) (items ++ more) → HasFront front passed items
first_front fuel front passed [] more few whole due = record { cut = []; rest = front; split = refl; whole = inl refl; due = tt }
first_front fuel [] passed (item line heard ∷ items) more few whole due = absurd due
first_front zero (x ∷ front) passed (item line heard ∷ items) more few whole due = absurd (omega (arith, few))
first_front (suc fuel) (x ∷ front) passed (item line heard ∷ items) more few whole due =
    let f = first_line x front whole in
    let is : lines_of (x ∷ front) ≡ without_return f.line ∷ lines_of f.behind = ap lines_of f.cut ∙ line_more f.line f.behind f.unended in
    let less : length f.behind ≤ fuel = omega (arith, few, ap length f.cut, length-append (ended f.line) f.behind, length-append f.line (10 ∷ [])) in
    elim (subst (λ (ls : List (List ℕ)). AreDueItems passed ls (item line heard ∷ (items ++ more))) is due) [
      | inl quiet ↦
          let r = first_front fuel f.behind (passed + 1) (item line heard ∷ items) more less f.whole quiet.1 in
          one_before (x ∷ front) f passed (item line heard ∷ items) (item line heard ∷ items) r (inl (quiet.0, r.due))
      | inr spoken ↦
          let r = first_front fuel f.behind (passed + 1) items more less f.whole spoken.3 in
          one_before (x ∷ front) f passed (item line heard ∷ items) items r (inr (spoken.0, spoken.1, spoken.2, r.due))
    ]

-- ---- logs

front_too : (cut rest front : List ℕ) (bytes : Option (List ℕ)) → cut ++ rest ≡ front → IfSome bytes (IsPrefix front) → IfSome bytes (IsPrefix cut)
front_too cut rest front None split is = tt
front_too cut rest front (Some all) split is = (rest ++ is.0, sym (append_assoc cut rest is.0) ∙ (ap (λ (l : List ℕ). l ++ is.0) split ∙ is.1))

first_answer : (bytes : Option (List ℕ)) (some all : List LogItem) → IsPrefix some all → AnswersFront bytes all → AnswersFront bytes some
first_answer bytes some all p a =
    let items : map due_of all ≡ map due_of some ++ map due_of p.0 = ap (map due_of) (sym p.1) ∙ map-append due_of some p.0 in
    let r = first_front (length a.front) a.front 0 (map due_of some) (map due_of p.0) (omega arith) a.whole (subst (AreDueItems 0 (lines_of a.front)) items a.due) in
    record { front = r.cut; whole = r.whole; due = r.due; is_front = front_too r.cut r.rest a.front bytes r.split a.is_front }

pub fronts_answer : FrontsAnswer
fronts_answer = λ sources logs some fronts all. record {
  as_many = as_many some logs fronts ∙ all.as_many;
  each = λ place source items from at.
      let low = slice_get_within some place items at in
      let low_all : place < length logs = omega (arith, low, as_many some logs fronts) in
      let longer = fronts_at some logs place fronts low in
      first_answer source items (get_or logs place [])
      (subst (λ (l : List LogItem). IsPrefix l (get_or logs place [])) (get_or_from_slice_get some place items [] at) longer)
      (all.each place source (get_or logs place []) from (slice_get-get_or logs place [] low_all));
}
