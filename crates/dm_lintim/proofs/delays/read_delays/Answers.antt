use Rattle.dm_lintim.specs.Files.{ReadsDelays}
use Rattle.dm_lintim.proofs.LawLemmas.{delays_one, only_answer}
use Rattle.dm_lintim.proofs.delays.read_delays.Goals as goal

pub returns-clause-only : goal.returns-clause-only
returns-clause-only c =
    only_answer c.read_rows.result (λ v. v.items) (ReadsDelays c.args.bytes.now) (delays_one c.args.bytes.now) c.read_rows.ensures.rows c.read_rows.ensures.fault
