-- Where the texts of records stand, the records are told.
use Rattle.std.proofs.Common.{◌≡◌, ℕ, ◌+◌, List, [], ◌∷◌, ◌++◌, length, Result, Ok, refl, sym, ap, subst, ◌∙◌, append_assoc, append-nil, length-append}
use Rattle.dm_text.specs.Places.{Place}
use Rattle.dm_text.specs.Judging.{Then, Times}
use Rattle.dm_cert.proofs.SpelledPlans.{HasLine, line_stands as line_tells}
use Rattle.dm_check.specs.declared.faults.Fault.{Fault}
use Rattle.dm_check.specs.declared.verdicts.BadKind.{BadKind}
use Rattle.dm_check.specs.FalseRecords.{Reads, Rules}
use Rattle.dm_check.proofs.Spelled.{texts_from}
use Rattle.dm_records.proofs.Each.{Each}

-- the value is told at the place, and this is left behind what it was read from
pub record Told {V : Type 0} (tells : Place → Result (V × Place) Fault → Type 0) (v : V) (place : Place) (rest : List ℕ) : Type 0 where
  pub next : Place
  pub left : next.left ≡ rest
  pub told : tells place (Ok (v, next))

-- where the text of the value stands behind those before it, the value is told
abbrev pub IsTold : {V : Type 0} → (List V → Place → Result (V × Place) Fault → Type 0) → (ℕ → V → List ℕ) → List V → V → Type 0
IsTold step text before v = (place : Place) (rest : List ℕ) → place.left ≡ text (length before) v ++ rest → Told (step before) v place rest

pub line_stands : {V : Type 0} (spells : V → List ℕ → Type 0) (text : V → List ℕ) (v : V) (place : Place) (rest : List ℕ) → HasLine spells text v → place.left ≡ text v ++ rest →
    Told (Reads spells) v place rest
line_stands spells text v place rest has left = record {
  next = record { left = rest; line = place.line + 1 };
  left = refl;
  told = line_tells spells text v place rest has left;
}

pub rule_stands : {V W : Type 0} (spells : V → List ℕ → Type 0) (text : V → List ℕ) (rule : V → Type 0) (k : BadKind) (gives : V → W) (v : V) (place : Place) (rest : List ℕ) → HasLine spells text v →
    rule v → place.left ≡ text v ++ rest → Told (Rules spells rule k gives) (gives v) place rest
rule_stands spells text rule k gives v place rest has holds left =
    let line = line_stands spells text v place rest has left in
    record {
      next = line.next;
      left = line.left;
      told = record { value = v; behind = line.next; told = line.told; then = (holds, refl, refl) };
    }

pub then_stands : {V W : Type 0} (first : Place → Result (V × Place) Fault → Type 0) (next : V → Place → Result (W × Place) Fault → Type 0) (v : V) (w : W) (place : Place) (rest more : List ℕ) →
    Told first v place rest → ((behind : Place) → behind.left ≡ rest → Told (next v) w behind more) → Told (Then first next) w place more
then_stands first next v w place rest more one later =
    let two = later one.next one.left in
    record { next = two.next; left = two.left; told = record { value = v; behind = one.next; told = one.told; then = two.told } }

pub all_stand : {V : Type 0} (step : List V → Place → Result (V × Place) Fault → Type 0) (text : ℕ → V → List ℕ) (before vs : List V) (place : Place) (rest : List ℕ) →
    Each (IsTold step text) before vs → place.left ≡ texts_from text (length before) vs ++ rest → Told (Times (length vs) step before) (before ++ vs) place rest
all_stand step text before [] place rest each left = record { next = place; left = left; told = (append-nil before, refl) }
all_stand {V} step text before (v ∷ vs) place rest each left =
    let here : List ℕ = text (length before) v in
    let one = each.0 place (texts_from text (length before + 1) vs ++ rest) (left ∙ append_assoc here (texts_from text (length before + 1) vs) rest) in
    let two = all_stand step text (before ++ v ∷ []) vs one.next rest each.1
    (one.left ∙ ap (λ k. texts_from text k vs ++ rest) (sym (length-append before (v ∷ [])))) in
    record {
      next = two.next;
      left = two.left;
      told = record {
        value = v;
        behind = one.next;
        told = one.told;
        then = subst (λ (all : List V). Times (length vs) step (before ++ v ∷ []) one.next (Ok (all, two.next))) (append_assoc before (v ∷ []) vs) two.told;
      };
    }
