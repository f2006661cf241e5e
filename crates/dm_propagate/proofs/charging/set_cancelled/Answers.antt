use Rattle.std.proofs.Common.{Bool, List, sym, ap, subst}
use Rattle.dm_priced.specs.Priced.{PricedValue}
use Rattle.dm_propagate.specs.Inside.Flags.{Charges, IsOut, LeadsOut}
use Rattle.dm_propagate.proofs.Around.{out_row_below}
use Rattle.dm_propagate.proofs.Flagging.{charges_out}
use Rattle.dm_propagate.proofs.charging.set_cancelled.Goals as goal

pub charge_each-requires-clause-are_activities : goal.charge_each-requires-clause-are_activities
charge_each-requires-clause-are_activities c = out_row_below c.args.day.now.net.now c.args.event c.args.out.now c.requires.out

pub returns-then-cancelled-clause-charged : goal.returns-then-cancelled-clause-charged
returns-then-cancelled-clause-charged c =
    let net = c.args.day.now.net.now in
    let rows = c.args.day.now.rows.now in
    let was = c.args.priced.now in
    subst (λ (flags : List Bool). Charges net rows (LeadsOut net (IsOut rows was.cancelled) c.args.event) was.charged flags)
    (sym (ap (λ (p : PricedValue). p.charged) c.cancel.ensures.cancelled))
    (charges_out net rows c.args.event c.args.out.now was.cancelled was.charged c.charge_each.new.priced.charged c.requires.out
    c.charge_each.ensures.charged)
