use Rattle.std.proofs.Common.{length, subst}
use Rattle.std.specs.Prelude.{IfErr}
use Rattle.dm_table.specs.Value.{TableValue}
use Rattle.dm_table.specs.Answers.{RefusesPost}
use Rattle.dm_server.proofs.After.{answer_after}
use Rattle.dm_server.proofs.kept.Kept.enter.Goals as goal

pub returns-in-Ok-clause-refused : goal.returns-in-Ok-clause-refused
returns-in-Ok-clause-refused c =
    let table = c.args.self.now.table.value in
    let refuses : TableValue → Type 0 = λ t. IfErr c.post_with.result (RefusesPost t.network t.rows (length t.history) c.args.entry.message) in
    answer_after table c.reveal.ensures.table c.args.entry.message c.post_with.result
    (subst refuses c.deref_mut.ensures.value (subst refuses c.in-Ok.ensures.ok c.post_with.ensures.refused))
