-- The one or two ids of a choice, and the choice that has them.
use Rattle.std.proofs.Common.{◌≡◌, ℕ, ◌≤◌, Bool, true, false, cond, eqb, ◌⊎◌, inl, inr, [], ◌∷◌, ◌++◌, All, refl, sym, ap, subst, arith, append-nil, codes}
use Rattle.std.specs.Fmt.{decimal}
use Rattle.std.proofs.lemmas.Bool.{cases_eq, ne_eqb}
use Rattle.std.proofs.lemmas.List.Elements.{All-nil, All-cons}
use Rattle.dm_rows.specs.declared.messages.Choice.{Choice as ChoiceOfRows}
use Rattle.dm_rows.specs.declared.messages.Choice.TheVariants as choice
use Rattle.dm_feed.specs.Parts.{Fits, id, largest_id}
use Rattle.dm_feed.specs.Lines.{spelling_of_choice}
use Rattle.dm_records.specs.RunLines.{IsFormedChoice}
use Rattle.dm_records.specs.declared.fields.Shape.TheVariants.{Choice}
use Rattle.dm_records.specs.Inside.Fields.{no_id, numbers_text, NumbersFit}
use Rattle.dm_records.specs.Inside.Kinds.{event, act, choice_with}

-- an id is not what stands for none
pub is_some_id : (b : ℕ) → b ≤ largest_id → eqb b no_id ≡ false
is_some_id b low = ne_eqb b no_id (λ e. omega (arith, e, low))

one_fits : (a : ℕ) → a ≤ largest_id → All Fits (id a ∷ [])
one_fits a low = All-cons Fits (id a) [] low (All-nil Fits)

two_fit : (a b : ℕ) → a ≤ largest_id → b ≤ largest_id → All Fits (id a ∷ id b ∷ [])
two_fit a b low low_too = All-cons Fits (id a) (id b ∷ []) low (one_fits b low_too)

-- the second number stands for none, or is an id that is not smaller than the first
pub second_or_none : (a b : ℕ) → NumbersFit Choice a b → (b ≡ no_id) ⊎ ((a ≤ b) × (b ≤ largest_id))
second_or_none a b fits =
    elim (cases_eq b no_id) [
      | inl none ↦ inl none
      | inr some ↦ inr (fits.1, (let low = fits.2 in omega arith))
    ]

-- numbers that fit make a choice in form
pub formed_choice : (a b : ℕ) → NumbersFit Choice a b → IsFormedChoice (choice_with a b)
formed_choice a b fits = by_second (second_or_none a b fits)
  where
    by_second : (b ≡ no_id) ⊎ ((a ≤ b) × (b ≤ largest_id)) → IsFormedChoice (choice_with a b)
    by_second (inl none) = subst (λ (n : ℕ). IsFormedChoice (choice_with a n)) (sym none) (one_fits a fits.0, tt)
    by_second (inr low) =
        subst (λ (t : Bool). IsFormedChoice (cond t (choice.Change (act a)) (choice.Pair (event a) (event b)))) (sym (is_some_id b low.1))
        (two_fit a b fits.0 low.1, low.0)

-- a choice in form has such numbers
pub record ChoiceIds (c : ChoiceOfRows) : Type 0 where
  pub one : ℕ
  pub two : ℕ
  pub is : choice_with one two ≡ c
  pub fits : NumbersFit Choice one two

pub choice_ids : (c : ChoiceOfRows) → IsFormedChoice c → ChoiceIds c
choice_ids (choice.Change a) f =
    let low : a.0 ≤ largest_id = f.0 0 (id 0) (omega arith) in
    record { one = a.0; two = no_id; is = refl; fits = (low, omega (arith, low), omega arith) }
choice_ids (choice.Pair i j) f =
    let low : j.0 ≤ largest_id = f.0 1 (id 0) (omega arith) in
    record {
      one = i.0;
      two = j.0;
      is = ap (λ (t : Bool). cond t (choice.Change (act i.0)) (choice.Pair i j)) (is_some_id j.0 low);
      fits = (f.0 0 (id 0) (omega arith), f.1, omega (arith, low));
    }

-- it is spelled by its numbers
spelled_so : (t : Bool) (a b : ℕ) → spelling_of_choice (cond t (choice.Change (act a)) (choice.Pair (event a) (event b))) ≡ cond t (decimal a) (decimal a ++ (codes " " ++ decimal b))
spelled_so true a b = append-nil (decimal a)
spelled_so false a b = simp append-nil

pub choice_spelled : (a b : ℕ) → spelling_of_choice (choice_with a b) ≡ numbers_text Choice a b
choice_spelled a b = spelled_so (eqb b no_id) a b
