use Rattle.dm_lintim.specs.Files.{ReadsEvents}
use Rattle.dm_lintim.proofs.LawLemmas.{events_one, only_answer}
use Rattle.dm_lintim.proofs.events.read_events.Goals as goal

pub returns-clause-only : goal.returns-clause-only
returns-clause-only c =
    only_answer c.read_rows.result (λ v. v.items) (ReadsEvents c.args.columns.now.events c.args.bytes.now) (events_one c.args.columns.now.events c.args.bytes.now) (rw c.events.ensures.columns at c.read_rows.ensures.rows) (rw c.events.ensures.columns at c.read_rows.ensures.fault)
