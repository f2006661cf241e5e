use Rattle.std.proofs.Common.{length, ap}
use Rattle.dm_cert.proofs.SolvedPrinted.{heading_of_part}
use Rattle.dm_cert.proofs.solved_text.put_part_heading.Goals as goal

pub returns-clause-text : goal.returns-clause-text
returns-clause-text g c =
    rw (← heading_of_part c.args.part.now _ _ _ (ap length c.as_slice.ensures) (ap length c.as_slice-2.ensures) (ap length c.as_slice-3.ensures))
    c.put_heading_of.ensures.text
