use Rattle.dm_lintim.specs.Files.{ReadsActivities}
use Rattle.dm_lintim.proofs.LawLemmas.{activities_one, only_answer}
use Rattle.dm_lintim.proofs.activities.read_activities.Goals as goal

pub returns-clause-only : goal.returns-clause-only
returns-clause-only c =
    only_answer c.read_rows.result (λ v. v.items) (ReadsActivities c.args.columns.now.activities c.args.bytes.now) (activities_one c.args.columns.now.activities c.args.bytes.now) (rw c.activities.ensures.columns at c.read_rows.ensures.rows) (rw c.activities.ensures.columns at c.read_rows.ensures.fault)
