use Rattle.std.proofs.Common.{◌≡◌, ℕ, List, sym, ap, subst, ◌∙◌}
use Rattle.dm_rows.specs.Cost.{cost_of, is_lost_change}
use Rattle.dm_check_rows.specs.Claims.{CheckedRowsValue, AreCheckedRowsOf, times_of}
use Rattle.dm_check_rows.proofs.checked_rows.CheckedRows.cost.Goals as goal

pub returns-then-self : goal.returns-then-self
returns-then-self c =
    let stands = subst (λ (d : CheckedRowsValue). AreCheckedRowsOf c.args.net.now d) (sym c.self.view_is) c.requires.stands in
    subst (λ (d : CheckedRowsValue). c.cost.result ≡ cost_of c.args.net.now d.rows (times_of d) c.args.penalty) c.self.view_is
    (c.cost.ensures c.self.inside.rows (is_lost_change c.args.net.now c.self.inside.rows) (stands.settled c.if-self.true).priced ∙ ap (λ (x : List ℕ). cost_of c.args.net.now c.self.inside.rows x c.args.penalty) (stands.settled c.if-self.true).times)

pub returns-else-self : goal.returns-else-self
returns-else-self c =
    subst (λ (d : CheckedRowsValue). c.cost_of.result ≡ cost_of c.args.net.now d.rows (times_of d) c.args.penalty) c.self.view_is
    (c.cost_of.ensures ∙ ap (λ (x : List ℕ). cost_of c.args.net.now c.self.inside.rows x c.args.penalty) c.times.ensures)
