use Rattle.std.proofs.Common.{◌-◌, vec_len}
use Rattle.dm_text.proofs.Counted.{HasRun}
use Rattle.dm_cert.specs.declared.faults.CertFault.{CertFault}
use Rattle.dm_tape.specs.Told.{TellsItem}
use Rattle.dm_tape.proofs.rounds.items_at.Given as goal

abbrev pub invariant-loop-alloc : goal.invariant-loop-alloc
invariant-loop-alloc l = HasRun {F = CertFault} (λ before. TellsItem) l.count l.initial.lines l.items.items l.lines

abbrev pub decreases-loop-alloc : goal.decreases-loop-alloc
decreases-loop-alloc l = l.count - vec_len l.items
