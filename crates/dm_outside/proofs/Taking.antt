-- How a source is taken, piece by piece.
use Rattle.std.proofs.Common.{◌≡◌, ℕ, ◌+◌, ◌≤◌, ◌++◌, List, length, Option, arith, length-append}
use Rattle.std.specs.Io.KnownBytes.{Consumes}
use Rattle.std.proofs.KnownBytes.{Consumes-trans}
use Rattle.dm_outside.specs.Taking.{TakesAtMost}

-- these bytes were taken so far, at most one above the limit, through a piece of this size
pub record Taking {S : Type 0} (left : S → Option (List ℕ)) (faults : S → ℕ) (is_sound : S → Type 0) (before now : S) (bytes : List ℕ) (limit size : ℕ) : Type 0 where
  pub consumed : Consumes (left before) (left now) bytes
  pub short : length bytes ≤ limit + 1
  pub later : faults before ≤ faults now
  pub sound : is_sound before → is_sound now
  pub piece : size ≡ 65536

module _ {S : Type 0} {left : S → Option (List ℕ)} {faults : S → ℕ} {is_sound : S → Type 0} where
  -- a read that gave bytes which were lost, or none
  pub taking_lost : {a b c : S} {bytes : List ℕ} {limit size most : ℕ} → Taking left faults is_sound a b bytes limit size → TakesAtMost most (left b) (left c) → length bytes + most ≤ limit + 1 → TakesAtMost (limit + 1) (left a) (left c)
  taking_lost {a} {b} {c} {bytes} {limit} {size} {most} t p short = record {
    given = bytes ++ p.given;
    short = omega (arith, length-append bytes p.given, p.short);
    consumed = Consumes-trans (left a) (left b) (left c) bytes p.given t.consumed p.consumed;
  }
