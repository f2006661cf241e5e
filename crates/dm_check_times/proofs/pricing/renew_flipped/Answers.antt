use Rattle.std.proofs.Common.{subst, sym}
use Rattle.dm_rows.specs.declared.messages.Flip.{Flip}
use Rattle.dm_rows.specs.Cost.{is_lost_change}
use Rattle.dm_check_times.specs.Inside.Pricing.{Reprices, IsFlipped}
use Rattle.dm_check_times.proofs.Weighing.{weight_reprices, reprices_none}
use Rattle.dm_check_times.proofs.pricing.renew_flipped.Goals as goal

pub returns-in-Keep-clause-reprices : goal.returns-in-Keep-clause-reprices
returns-in-Keep-clause-reprices c =
    let charges = is_lost_change c.args.net.now c.args.rows.now in
    subst (λ (f : Flip). Reprices c.args.net.now c.args.rows.now charges (IsFlipped f) c.args.cost.now c.renew.new.self) (sym c.in-Keep.is)
    (weight_reprices c.args.net.now c.args.rows.now charges c.in-Keep.act c.args.cost.now c.renew.new.self c.renew.ensures.renews)

pub returns-in-Drop-clause-reprices : goal.returns-in-Drop-clause-reprices
returns-in-Drop-clause-reprices c =
    let charges = is_lost_change c.args.net.now c.args.rows.now in
    subst (λ (f : Flip). Reprices c.args.net.now c.args.rows.now charges (IsFlipped f) c.args.cost.now c.renew-in-Drop.new.self) (sym c.in-Drop.is)
    (weight_reprices c.args.net.now c.args.rows.now charges c.in-Drop.act c.args.cost.now c.renew-in-Drop.new.self c.renew-in-Drop.ensures.renews)

pub returns-in-First-clause-reprices : goal.returns-in-First-clause-reprices
returns-in-First-clause-reprices c =
    let charges = is_lost_change c.args.net.now c.args.rows.now in
    subst (λ (f : Flip). Reprices c.args.net.now c.args.rows.now charges (IsFlipped f) c.args.cost.now c.args.cost.now) (sym c.in-First.is)
    (reprices_none c.args.net.now c.args.rows.now charges c.args.cost.now)
