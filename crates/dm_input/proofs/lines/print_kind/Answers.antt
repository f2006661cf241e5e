use Rattle.std.proofs.Common.{sym}
use Rattle.dm_input.proofs.lines.print_kind.Goals as goal

pub returns-in-FieldCount : goal.returns-in-FieldCount
returns-in-FieldCount g c = rw c.in-FieldCount.is c.put_number.ensures

pub returns-in-BadNumber : goal.returns-in-BadNumber
returns-in-BadNumber g c = rw (c.in-BadNumber.is, sym c.name.ensures) c.put.ensures

pub returns-in-UnknownType : goal.returns-in-UnknownType
returns-in-UnknownType g c = rw c.in-UnknownType.is c.put-in-UnknownType.ensures
