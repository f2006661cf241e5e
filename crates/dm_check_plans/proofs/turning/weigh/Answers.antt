use Rattle.std.proofs.Common.{length, subst}
use Rattle.dm_rows.specs.declared.messages.Flip.{Flip}
use Rattle.dm_paths.specs.Decisions.{is_charged_by}
use Rattle.dm_check_plans.specs.Inside.Flags.{AreSetWhere}
use Rattle.dm_check_plans.proofs.Weighed.{kept_weighed, ordered_weighed, dropped_weighed}
use Rattle.dm_check_plans.proofs.turning.weigh.Goals as goal

pub returns-in-Keep-clause-priced : goal.returns-in-Keep-clause-priced
returns-in-Keep-clause-priced c = λ before value turned priced.
    kept_weighed c.args.net.now c.args.rows.now before c.args.charged.now value c.args.cost.now priced c.in-Keep.act
    (subst (λ (f : Flip). AreSetWhere (is_charged_by f) value (length c.args.net.now.activities) before c.args.charged.now) c.in-Keep.is turned)

pub returns-in-Drop-clause-priced : goal.returns-in-Drop-clause-priced
returns-in-Drop-clause-priced c = λ before value turned priced.
    dropped_weighed c.args.net.now c.args.rows.now before c.args.charged.now value c.args.cost.now priced c.in-Drop.act c.renew.new.self
    (subst (λ (f : Flip). AreSetWhere (is_charged_by f) value (length c.args.net.now.activities) before c.args.charged.now) c.in-Drop.is turned)
    c.renew.ensures.renews

pub returns-in-First-clause-priced : goal.returns-in-First-clause-priced
returns-in-First-clause-priced c = λ before value turned priced.
    ordered_weighed c.args.net.now c.args.rows.now before c.args.charged.now value c.args.cost.now priced c.in-First.pair c.in-First.small
    (subst (λ (f : Flip). AreSetWhere (is_charged_by f) value (length c.args.net.now.activities) before c.args.charged.now) c.in-First.is turned)
