use Rattle.std.proofs.Common.{◌<◌, ◌≤◌, ℕ, length, Option, Some, None, refl, ◌∙◌, sym, subst}
use Rattle.std.specs.Option.{ForSome, IfSome}
use Rattle.dm_base.specs.declared.limits.TheConstants.{PASSED_TIME}
use Rattle.dm_rows.specs.Inside.Standings.{passed_of}
use Rattle.dm_rows.specs.Rows.{RowsValue}
use Rattle.dm_rows.proofs.Standings.{read_at, within_items}
use Rattle.dm_rows.proofs.rows.Rows.passed.Goals as goal

of_value : (o : Option ℕ) (P : ℕ → Type 0) → ForSome o P → IfSome o P
of_value None P h = tt
of_value (Some t) P h = h t refl

pub returns-clause-limit : goal.returns-clause-limit
returns-clause-limit c =
    let below : c.args.i < length c.self.inside.standings.items =
    within_items passed_of c.self.inside.standings.items c.args.i
    (subst (λ (v : RowsValue). c.args.i < length v.passed) (sym c.self.view_is) c.requires) in
    rw c.passed_time.ensures (
    of_value (passed_of c.index.result.now) (λ (t : ℕ). t ≤ PASSED_TIME)
    (λ t e. c.self.invariant.of_passed c.args.i t
    (sym (read_at passed_of c.self.inside.standings.items c.args.i c.index.result.now None below c.index.ensures) ∙ e))
    )
