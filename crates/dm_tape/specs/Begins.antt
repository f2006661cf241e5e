-- Where the line begins that a fault names.
use Rattle.std.specs.Prelude.{ℕ, suc, zero, ◌≡◌, ◌+◌, ◌⊎◌, List}
use Rattle.dm_text.specs.Places.{Place, at_start, IsLineAt}
use Rattle.dm_cert.specs.PlansRead.{want_of_memory, IsBehind}
use Rattle.dm_tape.specs.declared.faults.RoundFault.{RoundFault}

-- so many whole lines lead from a place to this one
abbrev pub LeadTo : ℕ → Place → Place → Type 0
LeadTo zero place here = here ≡ place
LeadTo (suc n) place here = (bytes : List ℕ) × (next : Place) × IsLineAt place bytes next × LeadTo n next here

-- the line of this number begins at this byte: so many whole lines stand before it
pub record BeginsAt (bytes : List ℕ) (line byte : ℕ) : Type 0 where
  pub before : ℕ
  pub place : Place
  pub lines : LeadTo before (at_start bytes) place
  pub number : line ≡ before + 1
  pub behind : IsBehind bytes byte place

-- the line of the fault begins at its byte; want of memory is of no line, and its byte is 0
abbrev pub IsPlaced : List ℕ → RoundFault → Type 0
IsPlaced bytes fault = ((fault.told ≡ want_of_memory) × (fault.byte ≡ 0)) ⊎ BeginsAt bytes fault.told.line fault.byte
