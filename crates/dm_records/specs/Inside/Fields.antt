-- Lines made of words and numbers, read from their front.
use Rattle.std.specs.Prelude.{ℕ, ◌≡◌, ◌==◌, ◌≤◌, nat_le, if◌then◌else◌, List, [], ◌∷◌, ◌++◌, codes, Option, Some, None, is_some, option_and_then, find}
use Rattle.std.specs.Option.{option_map}
use Rattle.std.specs.Fmt.{decimal}
use Rattle.dm_records.specs.declared.fields.Shape.{Shape}
use Rattle.dm_records.specs.declared.fields.Shape.TheVariants.{Bare, Single, Double, Choice}
use Rattle.dm_feed.specs.Parts.{largest_id}
use Rattle.dm_text.specs.Inside.Parts.{behind, number_in_front}

-- a number behind the text
abbrev pub number_behind : ℕ → List ℕ → List ℕ → Option (ℕ × List ℕ)
number_behind largest text line = option_and_then (number_in_front largest) (behind text line)

-- ---- fields: each some words and the largest number that may stand behind them

-- one number and then others
abbrev pub with_first : ℕ → Option (List ℕ × List ℕ) → Option (List ℕ × List ℕ)
with_first n more = option_map (λ q. (n ∷ q.0, q.1)) more

-- the numbers of the fields, and what stands behind the last
abbrev pub fields : List (List ℕ × ℕ) → List ℕ → Option (List ℕ × List ℕ)
fields [] line = Some ([], line)
fields (f ∷ fs) line = option_and_then (λ p. with_first p.0 (fields fs p.1)) (number_behind f.1 f.0 line)

-- what was read, where nothing stands behind it
abbrev pub whole : {X : Type 0} → Option (X × List ℕ) → Option X
whole None = None
whole (Some (x, [])) = Some x
whole (Some (x, c ∷ rest)) = None

-- the fields with these numbers, and then the rest
abbrev pub field_text : List (List ℕ × ℕ) → List ℕ → List ℕ → List ℕ
field_text [] numbers rest = rest
field_text (f ∷ fs) [] rest = rest
field_text (f ∷ fs) (n ∷ numbers) rest = f.0 ++ (decimal n ++ field_text fs numbers rest)

-- ---- kinds: some words, and no number, one, two with a space between them, or the one or two ids of a choice

abbrev pub with_none : ℕ × List ℕ → (ℕ × ℕ) × List ℕ
with_none p = ((p.0, 0), p.1)

-- in place of the second id of a choice that has one alone
abbrev pub no_id : ℕ
no_id = 4294967296

-- a first id, and the second one where it stands behind that and is not smaller
abbrev pub with_second : ℕ → List ℕ → Option (ℕ × List ℕ) → Option ((ℕ × ℕ) × List ℕ)
with_second a rest None = Some ((a, no_id), rest)
with_second a rest (Some q) = if nat_le a q.0 then Some ((a, q.0), q.1) else None

abbrev pub numbers_in : Shape → List ℕ → Option ((ℕ × ℕ) × List ℕ)
numbers_in Bare line = Some ((0, 0), line)
numbers_in (Single largest) line = option_map with_none (number_in_front largest line)
numbers_in (Double largest other) line =
    option_and_then (λ p. option_map (λ q. ((p.0, q.0), q.1)) (number_behind other (codes " ") p.1)) (number_in_front largest line)
numbers_in Choice line =
    option_and_then (λ p. with_second p.0 p.1 (number_behind largest_id (codes " ") p.1)) (number_in_front largest_id line)

abbrev pub numbers_text : Shape → ℕ → ℕ → List ℕ
numbers_text Bare a b = []
numbers_text (Single largest) a b = decimal a
numbers_text (Double largest other) a b = decimal a ++ (codes " " ++ decimal b)
numbers_text Choice a b = if b == no_id then decimal a else decimal a ++ (codes " " ++ decimal b)

abbrev pub NumbersFit : Shape → ℕ → ℕ → Type 0
NumbersFit Bare a b = (a ≡ 0) × (b ≡ 0)
NumbersFit (Single largest) a b = (a ≤ largest) × (b ≡ 0)
NumbersFit (Double largest other) a b = (a ≤ largest) × (b ≤ other)
NumbersFit Choice a b = (a ≤ largest_id) × (a ≤ b) × (b ≤ no_id)

-- the first kind whose words stand in front
abbrev pub kind_in_front : {K : Type 0} → (K → List ℕ) → List K → List ℕ → Option K
kind_in_front text kinds line = find (λ k. is_some (behind (text k) line)) kinds

-- the numbers of a kind, and what stands behind them
abbrev pub numbers_of : {K : Type 0} → (K → List ℕ) → (K → Shape) → List ℕ → K → Option ((K × ℕ × ℕ) × List ℕ)
numbers_of text shape line k =
    option_and_then (λ rest. option_map (λ p. ((k, p.0.0, p.0.1), p.1)) (numbers_in (shape k) rest)) (behind (text k) line)

-- a kind with its numbers, and what stands behind them
abbrev pub row_in : {K : Type 0} → (K → List ℕ) → (K → Shape) → List K → List ℕ → Option ((K × ℕ × ℕ) × List ℕ)
row_in text shape kinds line = option_and_then (numbers_of text shape line) (kind_in_front text kinds line)
