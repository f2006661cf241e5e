-- Where a list of records is told, each is told after those before it.
use Rattle.std.proofs.Common.{◌≡◌, ℕ, zero, suc, List, [], ◌∷◌, ◌++◌, length, Result, Ok, refl, sym, ap, subst, ◌∙◌, arith, append_assoc, append-nil}
use Rattle.dm_text.specs.Places.{Place}
use Rattle.dm_text.specs.Judging.{Times}
use Rattle.dm_check.specs.declared.faults.Fault.{Fault}
use Rattle.dm_records.proofs.Each.{Each}

record ToldBehind {V : Type 0} (P : List V → V → Type 0) (n : ℕ) (before all : List V) : Type 0 where
  tail : List V
  is : all ≡ before ++ tail
  count : length tail ≡ n
  each : Each P before tail

-- from what is told follows this of each
abbrev pub Says : {V : Type 0} → (List V → Place → Result (V × Place) Fault → Type 0) → (List V → V → Type 0) → Type 0
Says {V} step P = (before : List V) (place : Place) (v : V) (next : Place) → step before place (Ok (v, next)) → P before v

told_behind : {V : Type 0} (step : List V → Place → Result (V × Place) Fault → Type 0) (P : List V → V → Type 0) → Says step P →
    (n : ℕ) (before all : List V) (place next : Place) → Times n step before place (Ok (all, next)) → ToldBehind P n before all
told_behind step P says zero before all place next told = record { tail = []; is = told.0 ∙ sym (append-nil before); count = refl; each = tt }
told_behind step P says (suc n) before all place next told =
    let rest = told_behind step P says n (before ++ told.value ∷ []) all told.behind next told.then in
    record {
      tail = told.value ∷ rest.tail;
      is = rest.is ∙ append_assoc before (told.value ∷ []) rest.tail;
      count = omega (arith, rest.count);
      each = (says before place told.value told.behind told.told, rest.each);
    }

-- so many values, of each of which this holds
pub record ToldEach {V : Type 0} (P : List V → V → Type 0) (n : ℕ) (all : List V) : Type 0 where
  pub count : length all ≡ n
  pub each : Each P [] all

pub told_each : {V : Type 0} (step : List V → Place → Result (V × Place) Fault → Type 0) (P : List V → V → Type 0) → Says step P →
    (n : ℕ) (all : List V) (place next : Place) → Times n step [] place (Ok (all, next)) → ToldEach P n all
told_each {V} step P says n all place next told =
    let t = told_behind step P says n [] all place next told in
    record { count = ap length t.is ∙ t.count; each = subst (λ (vs : List V). Each P [] vs) (sym t.is) t.each }
