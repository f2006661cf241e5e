-- What a fault in the lines of a plan comes to.
use Rattle.std.specs.Prelude.{ℕ, Option, None, Result, Ok, Err}
use Rattle.dm_tree.specs.declared.plans.Plan.{Plan}
use Rattle.dm_cert.specs.declared.faults.CertFault.{CertFault}
use Rattle.dm_cert.specs.declared.faults.CertKind.{CertKind}
use Rattle.dm_cert.specs.declared.faults.CertKind.TheVariants as cert
use Rattle.dm_check.specs.declared.faults.Stop.{Stop}
use Rattle.dm_check.specs.declared.faults.Stop.TheVariants.{Fault as Found, OutOfMemory}
use Rattle.dm_check.specs.declared.verdicts.BadKind.TheVariants as kind
use Rattle.dm_check.specs.FalseRecords.{bad}

abbrev pub without_plan_at : ℕ → CertKind → Result (Option Plan) Stop
without_plan_at line cert.Form = Err (Found (bad kind.Form line))
without_plan_at line cert.Truncated = Err (Found (bad kind.Truncated line))
without_plan_at line cert.NotATree = Ok None
without_plan_at line cert.OutOfMemory = Err OutOfMemory

abbrev pub without_plan : CertFault → Result (Option Plan) Stop
without_plan fault = without_plan_at fault.line fault.kind

abbrev pub stop_at : ℕ → CertKind → Stop
stop_at line cert.Form = Found (bad kind.Form line)
stop_at line cert.Truncated = Found (bad kind.Truncated line)
stop_at line cert.NotATree = Found (bad kind.Plan line)
stop_at line cert.OutOfMemory = OutOfMemory

-- and in those of a plan by parts
abbrev pub stop_of : CertFault → Stop
stop_of fault = stop_at fault.line fault.kind
