-- What taking bytes from a source does, where the source tells what is left.
use Rattle.std.specs.Prelude.{◌≡◌, ℕ, ◌<◌, ◌≤◌, List, ◌++◌, length, Option, Result, Ok, Err, Vec}
use Rattle.std.specs.Io.KnownBytes.{Consumes, IsAtEnd}
use Rattle.std.specs.declared.alloc.Global.{Global}
use Rattle.dm_outside.specs.declared.faults.TakeFault.{TakeFault}
use Rattle.dm_outside.specs.declared.faults.TakeFault.TheVariants.{ReadFault, TooLong, OutOfMemory}

-- some bytes, and at most so many, came off the front of what was left: a suffix of it is left
pub record TakesAtMost (most : ℕ) (before now : Option (List ℕ)) : Type 0 where
  pub given : List ℕ
  pub short : length given ≤ most
  pub consumed : Consumes before now given

-- so many bytes came off the front of what was left
pub record TakesCount (count : ℕ) (before now : Option (List ℕ)) : Type 0 where
  pub given : List ℕ
  pub exact : length given ≡ count
  pub consumed : Consumes before now given

-- The bytes that were left are too long exactly where there are more than the limit. A read fault and want of
-- memory come before that is known.
abbrev pub AnswersLimit : Result (Vec ℕ Global) TakeFault → ℕ → List ℕ → Type 0
AnswersLimit (Ok bytes) limit left = length left ≤ limit
AnswersLimit (Err TooLong) limit left = limit < length left
AnswersLimit (Err ReadFault) limit left = Unit {0}
AnswersLimit (Err OutOfMemory) limit left = Unit {0}

-- the next count bytes came off the front of what was left, and stand behind the old ones; no bytes are the end
pub record TakesPiece (before now : Option (List ℕ)) (old new : List ℕ) (count : ℕ) : Type 0 where
  pub given : List ℕ
  pub behind : new ≡ old ++ given
  pub exact : length given ≡ count
  pub consumed : Consumes before now given
  pub at_end : count ≡ 0 → IsAtEnd now
