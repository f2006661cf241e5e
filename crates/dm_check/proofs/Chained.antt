-- Judges one behind the other, where the code does not make what is told.
use Rattle.std.proofs.Common.{◌≡◌, ℕ, ◌+◌, ◌<◌, ◌≤◌, List, [], ◌∷◌, ◌++◌, length, Result, Ok, Err, refl, arith, length-append}
use Rattle.dm_text.specs.Places.{Place}
use Rattle.dm_text.specs.Judging.{Times}
use Rattle.dm_text.proofs.Counted.{HasRun, run_begins, run_goes, run_stops, run_ends}
use Rattle.dm_check.specs.declared.faults.Fault.{Fault}
use Rattle.dm_check.specs.declared.faults.Stop.{Stop}
use Rattle.dm_check.specs.declared.faults.Stop.TheVariants.{Fault as Found, OutOfMemory}
use Rattle.dm_check.specs.Judged.{JudgedThat}

abbrev pub Judge : Type 0 → Type 1
Judge V = Place → Result (V × Place) Fault → Type 0

-- ---- so many steps

-- so many steps were told, and this holds of their values
pub record HasKept {V : Type 0} (step : List V → Judge V) (count : ℕ) (start here : Place) (i : ℕ) (keeps : List V → Type 0) : Type 0 where
  pub held : List V
  pub count_is : length held ≡ i
  pub run : HasRun {F = Fault} step count start held here
  pub kept : keeps held

module _ {V : Type 0} (step : List V → Judge V) (count : ℕ) (start : Place) where
  pub kept_none : (keeps : List V → Type 0) → keeps [] → HasKept step count start start 0 keeps
  kept_none keeps k = record { held = []; count_is = refl; run = run_begins step count start; kept = k }

  module _ (here next : Place) (i : ℕ) (keeps : List V → Type 0) (had : HasKept step count start here i keeps) where
    pub kept_more : {X : Type 0} (x : X) (known : List V → X → V → Type 0) (after : List V → Type 0) → i < count →
        ((before : List V) → length before ≡ i → keeps before → JudgedThat (step before) (known before) here next (Ok x)) →
        ((before : List V) (v : V) → length before ≡ i → keeps before → known before x v → after (before ++ v ∷ [])) → HasKept step count start next (i + 1) after
    kept_more x known after less told on =
        let one = told had.held had.count_is had.kept in
        record {
          held = had.held ++ one.value ∷ [];
          count_is = let c = had.count_is in omega (arith, length-append had.held (one.value ∷ []));
          run = run_goes step count start here next had.held one.value had.run (let c = had.count_is in omega arith) one.told;
          kept = on had.held one.value had.count_is had.kept one.holds_of;
        }

    pub kept_stop : {X Y : Type 0} (known : List V → X → V → Type 0) (holds : Y → List V → Type 0) (final : Place) (stop : Stop) → i < count →
        ((before : List V) → length before ≡ i → keeps before → JudgedThat (step before) (known before) here next (Err stop)) → JudgedThat (Times count step []) holds start final (Err stop)
    kept_stop {X} {Y} known holds final (Found fault) less told = run_stops step count start here had.held fault had.run (let c = had.count_is in omega arith) (told had.held had.count_is had.kept)
    kept_stop known holds final OutOfMemory less told = tt

    pub kept_all : {Y : Type 0} (y : Y) (holds : Y → List V → Type 0) → count ≤ i → ((all : List V) → length all ≡ i → keeps all → holds y all) → JudgedThat (Times count step []) holds start here (Ok y)
    kept_all y holds all of_all = record {
      value = had.held;
      told = run_ends step count start here had.held had.run (let c = had.count_is in omega arith);
      holds_of = of_all had.held had.count_is had.kept;
    }
