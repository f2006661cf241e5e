-- A loop that takes so many steps, one behind the other.
use Rattle.std.proofs.Common.{◌≡◌, ℕ, zero, suc, ◌+◌, ◌<◌, ◌≤◌, List, [], ◌∷◌, ◌++◌, length, Result, Ok, Err, refl, inl, inr, arith, length-append}
use Rattle.dm_text.specs.Places.{Place}
use Rattle.dm_text.specs.Judging.{Times}

-- what is told of the steps that are left, from this place on and with these values before, is told of all of them
pub record HasRun {V F : Type 0} (step : List V → Place → Result (V × Place) F → Type 0) (count : ℕ) (start : Place) (held : List V) (here : Place) : Type 0 where
  pub left : ℕ
  pub sum : left + length held ≡ count
  pub on : (answer : Result (List V × Place) F) → Times left step held here answer → Times count step [] start answer

pub run_begins : {V F : Type 0} (step : List V → Place → Result (V × Place) F → Type 0) (count : ℕ) (start : Place) → HasRun step count start [] start
run_begins step count start = record { left = count; sum = omega arith; on = λ answer told. told }

pub run_goes : {V F : Type 0} (step : List V → Place → Result (V × Place) F → Type 0) (count : ℕ) (start here next : Place) (held : List V) (v : V) →
    HasRun step count start held here → length held < count → step held here (Ok (v, next)) → HasRun step count start (held ++ v ∷ []) next
run_goes {V} {F} step count start here next held v run less told = at run.left run.sum run.on
  where
    at : (left : ℕ) → left + length held ≡ count → ((answer : Result (List V × Place) F) → Times left step held here answer → Times count step [] start answer) →
        HasRun step count start (held ++ v ∷ []) next
    at zero sum on = absurd (omega arith)
    at (suc m) sum on = record {
      left = m;
      sum = omega (arith, length-append held (v ∷ []));
      on = λ answer rest. on answer (goes m answer rest);
    }
      where
        goes : (m : ℕ) (answer : Result (List V × Place) F) → Times m step (held ++ v ∷ []) next answer → Times (suc m) step held here answer
        goes m (Ok all) rest = record { value = v; behind = next; told = told; then = rest }
        goes m (Err fault) rest = inr (record { value = v; behind = next; told = told; then = rest })

pub run_stops : {V F : Type 0} (step : List V → Place → Result (V × Place) F → Type 0) (count : ℕ) (start here : Place) (held : List V) (fault : F) →
    HasRun step count start held here → length held < count → step held here (Err fault) → Times count step [] start (Err fault)
run_stops {V} {F} step count start here held fault run less told = at run.left run.sum run.on
  where
    at : (left : ℕ) → left + length held ≡ count → ((answer : Result (List V × Place) F) → Times left step held here answer → Times count step [] start answer) →
        Times count step [] start (Err fault)
    at zero sum on = absurd (omega arith)
    at (suc m) sum on = on (Err fault) (inl told)

pub run_ends : {V F : Type 0} (step : List V → Place → Result (V × Place) F → Type 0) (count : ℕ) (start here : Place) (held : List V) →
    HasRun step count start held here → count ≤ length held → Times count step [] start (Ok (held, here))
run_ends {V} {F} step count start here held run all = at run.left run.sum run.on
  where
    at : (left : ℕ) → left + length held ≡ count → ((answer : Result (List V × Place) F) → Times left step held here answer → Times count step [] start answer) →
        Times count step [] start (Ok (held, here))
    at zero sum on = on (Ok (held, here)) (refl, refl)
    at (suc m) sum on = absurd (omega arith)
