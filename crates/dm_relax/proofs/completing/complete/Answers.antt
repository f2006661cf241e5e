use Rattle.std.proofs.Common.{◌≡◌, ◌++◌, length}
use Rattle.std.proofs.lemmas.Result.{IfOk-weaker}
use Rattle.dm_relax.specs.Complete.{completion_of, differences_from}
use Rattle.dm_relax.specs.Inside.Differing.{differing_pairs}
use Rattle.dm_relax.proofs.Differences.{gathered_from}
use Rattle.dm_relax.proofs.completing.complete.Goals as goal

pub returns : goal.returns
returns c =
    let r = c.in_ok-relaxation.relaxation in
    let is = c.in_ok-relaxation.ensures in
    let x = c.args.relaxed.now.times in
    IfOk-weaker c.with_differing_pairs.result
    (λ ds. ds.items ≡ c.in_ok-changes.changes.items ++ differing_pairs r.net.now r.rows.now r.path.now x (length r.net.now.pairs))
    (λ ds. ds.items ≡ differences_from c.args.net.now c.args.rows.now (completion_of c.args.net.now c.args.rows.now c.args.path.now x))
    (λ ds h.
    gathered_from c.args.net.now c.args.rows.now c.args.path.now x ds.items c.in_ok-changes.changes.items r.net.now r.rows.now r.path.now
    is.net is.rows is.path c.in_ok-changes.ensures h)
    c.with_differing_pairs.ensures
