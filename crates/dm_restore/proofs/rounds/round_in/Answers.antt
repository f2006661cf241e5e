use Rattle.std.proofs.Common.{length, ap, arith}
use Rattle.dm_cert.specs.declared.faults.CertFault.{CertFault}
use Rattle.dm_tape.specs.Rounds.{round_text}
use Rattle.dm_restore.proofs.ReadRounds.{begins_whole}
use Rattle.dm_restore.proofs.rounds.round_in.Goals as goal

pub returns-then-used-content : goal.returns-then-used-content
returns-then-used-content c = λ round size tape text.
    let same = c.in-Ok.ensures.exactly round (length (round_text round)) (begins_whole c.args.feeds c.args.content.now round size tape text) in
    omega (arith, c.if-used-content.true, same.1, ap length text)

pub returns-in_default : goal.returns-in_default
returns-in_default c = λ round size tape text.
    let same = c.in-Err.ensures.exactly round (length (round_text round)) (begins_whole c.args.feeds c.args.content.now round size tape text) in
    c.in_default.not-OutOfMemory (ap (λ (f : CertFault). f.kind) same)
