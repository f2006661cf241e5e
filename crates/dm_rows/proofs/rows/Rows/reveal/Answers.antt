use Rattle.std.proofs.Common.{◌≡◌, length, subst}
use Rattle.dm_rows.specs.Rows.{RowsValue}
use Rattle.dm_rows.proofs.Standings.{as_long}
use Rattle.dm_rows.proofs.rows.Rows.reveal.Goals as goal

pub returns-clause-events : goal.returns-clause-events
returns-clause-events c =
    subst (λ (v : RowsValue). length v.cancelled ≡ length v.passed) c.self.view_is (as_long _ _ c.self.inside.standings.items)

pub returns-clause-changes : goal.returns-clause-changes
returns-clause-changes c =
    subst (λ (v : RowsValue). length v.locked_changes ≡ length v.kept) c.self.view_is (as_long _ _ c.self.inside.changes.items)

pub returns-clause-pairs : goal.returns-clause-pairs
returns-clause-pairs c =
    subst (λ (v : RowsValue). length v.locked_pairs ≡ length v.small_first) c.self.view_is (as_long _ _ c.self.inside.pairs.items)
