use Rattle.std.proofs.Common.{◌-◌, vec_len}
use Rattle.dm_text.specs.Judging.{Line}
use Rattle.dm_text.proofs.Counted.{HasRun}
use Rattle.dm_cert.specs.declared.faults.CertFault.{CertFault}
use Rattle.dm_cert.specs.PlansRead.{cut_line, misshapen_line}
use Rattle.dm_cert.proofs.listed.read_listed.Given as goal

abbrev pub invariant-loop-lines : goal.invariant-loop-lines
invariant-loop-lines g l =
    HasRun {F = CertFault} (λ before. Line cut_line misshapen_line g.L.Listed.is_line) l.count l.initial.lines l.items.items l.lines

abbrev pub decreases-loop-lines : goal.decreases-loop-lines
decreases-loop-lines g l = l.count - vec_len l.items
