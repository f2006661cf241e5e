use Rattle.dm_lintim.specs.Files.{ReadsIds}
use Rattle.dm_lintim.proofs.LawLemmas.{ids_one, only_answer}
use Rattle.dm_lintim.proofs.ids.read_ids.Goals as goal

pub returns-clause-only : goal.returns-clause-only
returns-clause-only c =
    only_answer c.read_rows.result (λ v. v.items) (ReadsIds c.args.bytes.now) (ids_one c.args.bytes.now) c.read_rows.ensures.rows c.read_rows.ensures.fault
