-- The texts of shares as they are printed.
use Rattle.std.proofs.Common.{◌≡◌, ℕ, true, false, eqb, List, [], ◌∷◌, ◌++◌, length, map, refl, sym, ap, arith, append-nil, codes}
use Rattle.std.specs.List.{flat_map}
use Rattle.std.specs.Fmt.{decimal}
use Rattle.std.proofs.lemmas.Bool.{eqb-true}
use Rattle.dm_parts.specs.declared.parts.Part.{Part}
use Rattle.dm_cert.specs.PlanTexts.{line_end}
use Rattle.dm_cert.specs.SolvedTexts.{spaced_number, ids_text, part_heading}
use Rattle.dm_cert.specs.SolvedRead.{part_heading_text}

pub no_items : {X : Type 0} (xs : List X) → true ≡ eqb (length xs) 0 → xs ≡ []
no_items [] e = refl
no_items (x ∷ xs) e = absurd (omega (arith, eqb-true (length (x ∷ xs)) 0 (sym e)))

pub one_spaced : (m n : ℕ) → m ≡ n → codes " " ++ (decimal m ++ []) ≡ spaced_number n
one_spaced m n e = rw e (ap (λ xs. 32 ∷ xs) (append-nil (decimal n)))

spaced_map : {X : Type 0} (number : X → ℕ) (ids : List X) → flat_map spaced_number (map number ids) ≡ flat_map (λ id. spaced_number (number id)) ids
spaced_map number [] = refl
spaced_map number (x ∷ xs) = ap (λ text. spaced_number (number x) ++ text) (spaced_map number xs)

-- where there are ids, their line is a word, the ids and a line feed
pub named_text : {X : Type 0} (word : List ℕ) (number : X → ℕ) (ids : List X) → false ≡ eqb (length ids) 0 →
    ids_text word (map number ids) ≡ word ++ (flat_map (λ id. spaced_number (number id)) ids ++ codes "\n")
named_text word number [] some = cc
named_text word number (x ∷ xs) some =
    ap (λ text. word ++ (text ++ line_end)) (spaced_map number (x ∷ xs))

-- a part's first line, by what it says
pub heading_of_part : (part : Part) (arrivals changes nodes : ℕ) → arrivals ≡ length part.share.arrivals → changes ≡ length part.share.changes → nodes ≡ length part.tree →
    part_heading_text (record { arrivals = arrivals; changes = changes; nodes = nodes; bound = part.bound }) ≡ part_heading part
unfolding part_heading part_heading_text
heading_of_part part arrivals changes nodes a b c = rw (a, b, c) refl
