use Rattle.std.proofs.Common.{◌≡◌, ◌++◌, length}
use Rattle.std.proofs.lemmas.Result.{IfOk-weaker}
use Rattle.dm_stretch.specs.Windows.{window_base}
use Rattle.dm_stretch.specs.Inside.Standing.{standing_pairs}
use Rattle.dm_stretch.proofs.Beside.{base_gathered}
use Rattle.dm_stretch.proofs.standing.window_base.Goals as goal

pub returns : goal.returns
returns c =
    let net = c.args.net.now in
    let rows = c.args.rows.now in
    let window = c.args.window.now in
    IfOk-weaker c.with_standing_pairs.result
    (λ ds. ds.items ≡ c.in_ok-changes.changes.items ++ standing_pairs net rows window (length net.pairs))
    (λ ds. ds.items ≡ window_base net rows window)
    (λ ds is. base_gathered net rows window c.in_ok-changes.changes.items ds.items c.in_ok-changes.ensures is)
    c.with_standing_pairs.ensures
