-- The two decisions of a choice.
use Rattle.std.specs.Prelude.{◌<◌, ◌≤◌, nat_lt, if◌then◌else◌, Bool, true, false}
use Rattle.dm_rows.specs.declared.messages.Decision.{Decision}
use Rattle.dm_rows.specs.declared.messages.Decision.TheVariants.{Keep, Drop, First}
use Rattle.dm_rows.specs.declared.messages.Choice.{Choice}
use Rattle.dm_rows.specs.declared.messages.Choice.TheVariants.{Change, Pair}

-- A change is first kept and then dropped. Of a pair the event with the smaller id goes first, and then the other.
abbrev pub first_decision : Choice → Decision
first_decision (Change a) = Keep a
first_decision (Pair i j) = First i j

abbrev pub second_decision : Choice → Decision
second_decision (Change a) = Drop a
second_decision (Pair i j) = First j i

-- a pair is written with two different ids, the smaller first
abbrev pub IsOrdered : Choice → Type 0
IsOrdered (Change a) = Unit {0}
IsOrdered (Pair i j) = i.0 < j.0

abbrev pub is_ordered : Choice → Bool
is_ordered (Change a) = true
is_ordered (Pair i j) = nat_lt i.0 j.0

-- of a pair no larger id stands before a smaller one
abbrev pub IsSorted : Choice → Type 0
IsSorted (Change a) = Unit {0}
IsSorted (Pair i j) = i.0 ≤ j.0

-- the same choice, of a pair the smaller id first
abbrev pub sorted_choice : Choice → Choice
sorted_choice (Change a) = Change a
sorted_choice (Pair i j) = if nat_lt i.0 j.0 then Pair i j else Pair j i

-- a first decision of its choice, and the other decision of the same choice
abbrev pub is_first_decision : Decision → Bool
is_first_decision (Keep a) = true
is_first_decision (Drop a) = false
is_first_decision (First i j) = nat_lt i.0 j.0

abbrev pub other_decision : Decision → Decision
other_decision (Keep a) = Drop a
other_decision (Drop a) = Keep a
other_decision (First i j) = First j i
