-- A kind with its numbers is read where it stands, and nowhere else.
use Rattle.std.proofs.Common.{◌≡◌, ℕ, ◌^◌, ◌<◌, ◌≤◌, Bool, true, false, cond, leb, ltb, ◌⊎◌, inl, inr, List, [], ◌++◌, Option, Some, None, refl, sym, ap, subst, ◌∙◌, arith, append_assoc, codes}
use Rattle.std.specs.Option.{option_map}
use Rattle.std.specs.Prelude.{option_and_then}
use Rattle.std.specs.Fmt.{decimal}
use Rattle.std.proofs.lemmas.Bool.{leb-true, ltb-true, ltb-false, le-leb, lt-leb}
use Rattle.dm_feed.specs.Parts.{largest_id}
use Rattle.dm_text.specs.Inside.Parts.{behind, number_in_front}
use Rattle.dm_text.proofs.Reading.{EndsNumber, behind_back, behind_is, number_back, number_is}
use Rattle.dm_cert.specs.PlanTexts.{line_end}
use Rattle.dm_cert.proofs.Options.{and_then_some, map_some, none_some, some_pair}
use Rattle.dm_cert.proofs.DecisionsRead.{number_behind_back, number_behind_is}
use Rattle.dm_records.specs.declared.fields.Shape.{Shape}
use Rattle.dm_records.specs.declared.fields.Shape.TheVariants.{Bare, Single, Double, Choice}
use Rattle.dm_records.specs.Inside.Fields.{number_behind, no_id, with_none, with_second, numbers_in, numbers_text, NumbersFit, kind_in_front, numbers_of, row_in}
use Rattle.dm_records.proofs.ChoicesRead.{is_some_id, second_or_none}

-- the numbers are ones that digits write
abbrev pub IsSmall : Shape → Type 0
IsSmall Bare = Unit {0}
IsSmall (Single largest) = largest < 10 ^ 64
IsSmall (Double largest other) = (largest < 10 ^ 64) × (other < 10 ^ 64)
IsSmall Choice = Unit {0}

-- behind a choice no further id stands
abbrev pub EndsChoice : List ℕ → Type 0
EndsChoice rest = number_behind largest_id (codes " ") rest ≡ None

pub ends_whole : EndsChoice []
unfolding behind
ends_whole = refl

pub ends_line : (rest : List ℕ) → EndsChoice (line_end ++ rest)
unfolding behind
ends_line rest = refl

one_id_back : (a : ℕ) (rest : List ℕ) → a ≤ largest_id → EndsNumber rest → EndsChoice rest → numbers_in Choice (decimal a ++ rest) ≡ Some ((a, no_id), rest)
one_id_back a rest low ends last = rw (number_back largest_id a rest low (omega arith) ends, last) refl

two_ids_back : (a b : ℕ) (rest : List ℕ) → a ≤ b → b ≤ largest_id → EndsNumber rest → numbers_in Choice ((decimal a ++ (codes " " ++ decimal b)) ++ rest) ≡ Some ((a, b), rest)
two_ids_back a b rest sorted low ends =
    ap (numbers_in Choice) (append_assoc (decimal a) (codes " " ++ decimal b) rest)
    ∙ rw (
      number_back largest_id a (codes " " ++ (decimal b ++ rest)) (omega arith) (omega arith) refl,
      number_behind_back largest_id b (codes " ") rest low (omega arith) ends,
      le-leb a b sorted,
    ) refl

ids_back : (a b : ℕ) (rest : List ℕ) → NumbersFit Choice a b → EndsNumber rest → EndsChoice rest → numbers_in Choice (numbers_text Choice a b ++ rest) ≡ Some ((a, b), rest)
ids_back a b rest fits ends last = by_second (second_or_none a b fits)
  where
    by_second : (b ≡ no_id) ⊎ ((a ≤ b) × (b ≤ largest_id)) → numbers_in Choice (numbers_text Choice a b ++ rest) ≡ Some ((a, b), rest)
    by_second (inl none) =
        subst (λ (n : ℕ). numbers_in Choice (numbers_text Choice a n ++ rest) ≡ Some ((a, n), rest)) (sym none) (one_id_back a rest fits.0 ends last)
    by_second (inr low) =
        ap (λ (t : Bool). numbers_in Choice (cond t (decimal a) (decimal a ++ (codes " " ++ decimal b)) ++ rest)) (is_some_id b low.1)
        ∙ two_ids_back a b rest low.0 low.1 ends

with_zero : (a b : ℕ) (rest : List ℕ) → b ≡ 0 → (◌≡◌ {A = Option ((ℕ × ℕ) × List ℕ)} (Some ((a, 0), rest)) (Some ((a, b), rest)))
with_zero a b rest e = cc

pub numbers_back : (shape : Shape) (a b : ℕ) (rest : List ℕ) → IsSmall shape → NumbersFit shape a b → EndsNumber rest → EndsChoice rest →
    numbers_in shape (numbers_text shape a b ++ rest) ≡ Some ((a, b), rest)
numbers_back Bare a b rest small fit ends last = ap (λ (p : ℕ × ℕ). Some (p, rest)) (pair (sym fit.0) (sym fit.1))
  where
    pair : {x y v w : ℕ} → x ≡ v → y ≡ w → (◌≡◌ {A = ℕ × ℕ} (x, y) (v, w))
    pair p q = cc
numbers_back (Single largest) a b rest small fit ends last =
    rw (number_back largest a rest fit.0 small ends) (with_zero a b rest fit.1)
numbers_back (Double largest other) a b rest small fit ends last =
    ap (numbers_in (Double largest other)) (append_assoc (decimal a) (codes " " ++ decimal b) rest)
    ∙ rw (
      number_back largest a (codes " " ++ (decimal b ++ rest)) fit.0 small.0 refl,
      number_behind_back other b (codes " ") rest fit.1 small.1 ends,
    ) refl
numbers_back Choice a b rest small fit ends last = ids_back a b rest fit ends last

abbrev paired : ℕ → ℕ × List ℕ → (ℕ × ℕ) × List ℕ
paired n q = ((n, q.0), q.1)

pub record HasNumbers (shape : Shape) (line : List ℕ) (a b : ℕ) (rest : List ℕ) : Type 0 where
  pub line_is : line ≡ numbers_text shape a b ++ rest
  pub fits : NumbersFit shape a b

some_is : (x y : (ℕ × ℕ) × List ℕ) → (◌≡◌ {A = Option ((ℕ × ℕ) × List ℕ)} (Some x) (Some y)) → x ≡ y
some_is x y e = cc

abbrev HasPair : List ℕ → (ℕ × ℕ) × List ℕ → Type 0
HasPair line p = HasNumbers Choice line p.0.0 p.0.1 p.1

-- what stands behind a first id
second_is : (first : ℕ) (behind_first line : List ℕ) (p : (ℕ × ℕ) × List ℕ) → line ≡ decimal first ++ behind_first → first ≤ largest_id →
    (o : Option (ℕ × List ℕ)) → number_behind largest_id (codes " ") behind_first ≡ o → with_second first behind_first o ≡ Some p → HasPair line p
second_is first behind_first line p of low None found e =
    subst (HasPair line) (some_is ((first, no_id), behind_first) p e) (record { line_is = of; fits = (low, omega (arith, low), omega arith) })
second_is first behind_first line p of low (Some q) found e =
    elim (leb first q.0) as (λ t. leb first q.0 ≡ t → cond t (Some ((first, q.0), q.1)) None ≡ Some p → HasPair line p) [
      | true ↦ λ sorted e.
          let more = number_behind_is largest_id q.0 (codes " ") behind_first q.1 (omega arith) found in
          let text : numbers_text Choice first q.0 ≡ decimal first ++ (codes " " ++ decimal q.0) =
          ap (λ (t : Bool). cond t (decimal first) (decimal first ++ (codes " " ++ decimal q.0))) (is_some_id q.0 more.fits) in
          let line_is : line ≡ numbers_text Choice first q.0 ++ q.1 =
          of ∙ (ap (λ xs. decimal first ++ xs) more.line_is
          ∙ (sym (append_assoc (decimal first) (codes " " ++ decimal q.0) q.1) ∙ ap (λ xs. xs ++ q.1) (sym text))) in
          subst (HasPair line) (some_is ((first, q.0), q.1) p e) (record { line_is = line_is; fits = (low, leb-true first q.0 sorted, (let high = more.fits in omega arith)) })
      | false ↦ λ unsorted e. absurd (none_some e)
    ] refl e

pub numbers_is : (shape : Shape) (line : List ℕ) (a b : ℕ) (rest : List ℕ) → IsSmall shape → numbers_in shape line ≡ Some ((a, b), rest) → HasNumbers shape line a b rest
numbers_is Bare line a b rest small e =
    let p = some_pair (0, 0) (a, b) line rest e in
    record { line_is = p.1; fits = (sym (ap (λ (q : ℕ × ℕ). q.0) p.0), sym (ap (λ (q : ℕ × ℕ). q.1) p.0)) }
numbers_is (Single largest) line a b rest small e =
    let came = map_some with_none (number_in_front largest line) ((a, b), rest) e in
    let has = number_is largest came.value.0 line came.value.1 small came.some in
    subst (λ (p : (ℕ × ℕ) × List ℕ). HasNumbers (Single largest) line p.0.0 p.0.1 p.1) came.gives
    (record { line_is = has.line_is; fits = (has.fits, refl) })
numbers_is (Double largest other) line a b rest small e =
    let came = and_then_some (λ (p : ℕ × List ℕ). option_map {U = (ℕ × ℕ) × List ℕ} (paired p.0) (number_behind other (codes " ") p.1)) (number_in_front largest line) ((a, b), rest) e in
    let has = number_is largest came.value.0 line came.value.1 small.0 came.some in
    let next = map_some (paired came.value.0) (number_behind other (codes " ") came.value.1) ((a, b), rest) came.gives in
    let more = number_behind_is other next.value.0 (codes " ") came.value.1 next.value.1 small.1 next.some in
    subst (λ (p : (ℕ × ℕ) × List ℕ). HasNumbers (Double largest other) line p.0.0 p.0.1 p.1) next.gives
    (record {
      line_is = has.line_is ∙ (ap (λ xs. decimal came.value.0 ++ xs) more.line_is ∙ sym (append_assoc (decimal came.value.0) (codes " " ++ decimal next.value.0) next.value.1));
      fits = (has.fits, more.fits);
    })
numbers_is Choice line a b rest small e =
    let came = and_then_some (λ (p : ℕ × List ℕ). with_second p.0 p.1 (number_behind largest_id (codes " ") p.1)) (number_in_front largest_id line) ((a, b), rest) e in
    let has = number_is largest_id came.value.0 line came.value.1 (omega arith) came.some in
    second_is came.value.0 came.value.1 line ((a, b), rest) has.line_is has.fits (number_behind largest_id (codes " ") came.value.1) refl came.gives

-- ---- rows

pub row_back : {K : Type 0} (text : K → List ℕ) (shape : K → Shape) (kinds : List K) (k : K) (a b : ℕ) (rest : List ℕ) →
    kind_in_front text kinds (text k ++ (numbers_text (shape k) a b ++ rest)) ≡ Some k → IsSmall (shape k) → NumbersFit (shape k) a b → EndsNumber rest → EndsChoice rest →
    row_in text shape kinds (text k ++ (numbers_text (shape k) a b ++ rest)) ≡ Some ((k, a, b), rest)
row_back text shape kinds k a b rest front small fit ends last =
    rw (front, behind_back (text k) (numbers_text (shape k) a b ++ rest), numbers_back (shape k) a b rest small fit ends last) refl

pub record HasRow {K : Type 0} (text : K → List ℕ) (shape : K → Shape) (line : List ℕ) (k : K) (a b : ℕ) (rest : List ℕ) : Type 0 where
  pub line_is : line ≡ text k ++ (numbers_text (shape k) a b ++ rest)
  pub fits : NumbersFit (shape k) a b

pub row_is : {K : Type 0} (text : K → List ℕ) (shape : K → Shape) (kinds : List K) (line : List ℕ) (k : K) (a b : ℕ) (rest : List ℕ) →
    ((j : K) → IsSmall (shape j)) → row_in text shape kinds line ≡ Some ((k, a, b), rest) → HasRow text shape line k a b rest
row_is {K} text shape kinds line k a b rest small e =
    let head = and_then_some (numbers_of text shape line) (kind_in_front text kinds line) ((k, a, b), rest) e in
    let words = and_then_some (λ (r : List ℕ). option_map {U = (K × ℕ × ℕ) × List ℕ} (λ (p : (ℕ × ℕ) × List ℕ). ((head.value, p.0.0, p.0.1), p.1)) (numbers_in (shape head.value) r)) (behind (text head.value) line) ((k, a, b), rest) head.gives in
    let numbers = map_some (λ (p : (ℕ × ℕ) × List ℕ). ((head.value, p.0.0, p.0.1), p.1)) (numbers_in (shape head.value) words.value) ((k, a, b), rest) words.gives in
    let front = behind_is (text head.value) line words.value words.some in
    let has = numbers_is (shape head.value) words.value numbers.value.0.0 numbers.value.0.1 numbers.value.1 (small head.value) numbers.some in
    subst (λ (p : (K × ℕ × ℕ) × List ℕ). HasRow text shape line p.0.0 p.0.1 p.0.2 p.1) numbers.gives
    (record { line_is = front ∙ ap (λ xs. text head.value ++ xs) has.line_is; fits = has.fits })

-- ---- the ids of a choice, one after the other

abbrev second_in : ℕ × List ℕ → Option ((ℕ × ℕ) × List ℕ)
second_in p = with_second p.0 p.1 (number_behind largest_id (codes " ") p.1)

pub no_first : (line : List ℕ) → None ≡ number_in_front largest_id line → None ≡ numbers_in Choice line
no_first line none = ap (option_and_then second_in) none

first_read : (line rest : List ℕ) (a : ℕ) (o : Option (ℕ × List ℕ)) → Some (a, rest) ≡ number_in_front largest_id line → o ≡ number_behind largest_id (codes " ") rest →
    with_second a rest o ≡ numbers_in Choice line
first_read line rest a o first second = ap (with_second a rest) second ∙ ap (option_and_then second_in) first

pub no_second : (line rest : List ℕ) (a : ℕ) → Some (a, rest) ≡ number_in_front largest_id line → None ≡ number_behind largest_id (codes " ") rest →
    Some ((a, no_id), rest) ≡ numbers_in Choice line
no_second line rest a first none = first_read line rest a None first none

pub sorted_ids : (line rest more : List ℕ) (a b : ℕ) → Some (a, rest) ≡ number_in_front largest_id line → Some (b, more) ≡ number_behind largest_id (codes " ") rest → ltb b a ≡ false →
    Some ((a, b), more) ≡ numbers_in Choice line
sorted_ids line rest more a b first second sorted =
    ap (λ (t : Bool). cond t (Some ((a, b), more)) None) (sym (le-leb a b (ltb-false b a sorted))) ∙ first_read line rest a (Some (b, more)) first second

pub unsorted_ids : (line rest more : List ℕ) (a b : ℕ) → Some (a, rest) ≡ number_in_front largest_id line → Some (b, more) ≡ number_behind largest_id (codes " ") rest → ltb b a ≡ true →
    None ≡ numbers_in Choice line
unsorted_ids line rest more a b first second unsorted =
    ap (λ (t : Bool). cond t (Some ((a, b), more)) None) (sym (lt-leb a b (ltb-true b a unsorted))) ∙ first_read line rest a (Some (b, more)) first second
