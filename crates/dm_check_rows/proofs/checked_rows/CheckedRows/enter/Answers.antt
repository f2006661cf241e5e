use Rattle.std.proofs.Common.{sym, subst}
use Rattle.dm_check_times.proofs.Agreeing.{changes_net}
use Rattle.dm_check_rows.specs.Claims.{CheckedRowsValue, AreCheckedRowsOf}
use Rattle.dm_check_rows.proofs.Acceptance.{entered}
use Rattle.dm_check_rows.proofs.checked_rows.CheckedRows.enter.Goals as goal

pub keep_if-self-inside-requires-clause-within : goal.keep_if-self-inside-requires-clause-within
keep_if-self-inside-requires-clause-within c =
    let stands = subst (λ (d : CheckedRowsValue). AreCheckedRowsOf c.args.net.now d) (sym c.self.view_is) c.requires.stands in
    changes_net c.args.net.now c.self.inside.rows c.in-Ok.change stands.sized c.in-Ok.ensures.reaches

pub returns-clause-stands : goal.returns-clause-stands
returns-clause-stands c =
    entered c.args.net.now c.args.message.now c.in-Ok.change c.self.inside.rows c.apply.new.self c.self.inside.is_free c.stays_free-self-inside.result c.self.inside.is_kept c.keep_if-self-inside.result
    c.self.inside.is_priced c.prices_still-is_priced.result c.price_if-self-inside.result c.self.inside.timetable c.keep_if-self-inside.new.timetable c.self.inside.kept_cost c.price_if-self-inside.new.cost c.self.inside.moved c.self.inside.is_settled c.self.inside.schedule.items
    (subst (λ (d : CheckedRowsValue). AreCheckedRowsOf c.args.net.now d) (sym c.self.view_is) c.requires.stands) c.in-Ok.ensures.named c.apply.ensures.rows (c.stays_free-self-inside.ensures c.args.net.now) (c.apply.ensures.sizes c.args.net.now)
    c.keep_if-self-inside.ensures.room c.keep_if-self-inside.ensures.kept c.keep_if-self-inside.ensures.times c.price_if-self-inside.ensures.kept c.price_if-self-inside.ensures.times c.price_if-self-inside.ensures.priced c.price_if-self-inside.ensures.only
    c.prices_still-is_priced.ensures.only c.prices_still-is_priced.ensures.passes

pub price_if-self-inside-requires-clause-within : goal.price_if-self-inside-requires-clause-within
price_if-self-inside-requires-clause-within c =
    let stands = subst (λ (d : CheckedRowsValue). AreCheckedRowsOf c.args.net.now d) (sym c.self.view_is) c.requires.stands in
    changes_net c.args.net.now c.self.inside.rows c.in-Ok.change stands.sized c.in-Ok.ensures.reaches
