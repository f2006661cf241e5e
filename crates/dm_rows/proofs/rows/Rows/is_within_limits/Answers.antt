use Rattle.std.proofs.Common.{subst}
use Rattle.dm_rows.specs.Rows.{RowsValue, NoneIsBoth}
use Rattle.dm_rows.proofs.Standings.{none_is_both}
use Rattle.dm_rows.proofs.rows.Rows.is_within_limits.Goals as goal

pub returns-clause-apart : goal.returns-clause-apart
returns-clause-apart c =
    subst (λ (v : RowsValue). NoneIsBoth v.passed v.cancelled) c.self.view_is (none_is_both c.self.inside.standings.items)
