use Rattle.std.proofs.Common.{Bool, List, sym, ap, subst, ◌∙◌}
use Rattle.std.specs.Prelude.{slice_set}
use Rattle.dm_rows.specs.Active.{has_passed}
use Rattle.dm_rows.specs.Rows.{is_cancelled}
use Rattle.dm_priced.specs.Priced.{PricedValue}
use Rattle.dm_propagate.specs.Inside.Flags.{Charges, IsOut, LeadsOut, LeadsPast}
use Rattle.dm_propagate.proofs.Around.{in_row_below}
use Rattle.dm_propagate.proofs.Flagging.{charges_past}
use Rattle.dm_propagate.proofs.charging.set_flags_at.Goals as goal

pub charge_each-requires-clause-are_activities : goal.charge_each-requires-clause-are_activities
charge_each-requires-clause-are_activities c = in_row_below c.args.day.now.net.now c.args.event c.args.into.now c.requires.into

pub returns-clause-live : goal.returns-clause-live
returns-clause-live c = ap (λ (p : PricedValue). p.live) c.set_passed.ensures.passed ∙ c.set_cancelled.ensures.live ∙ c.charge_each.ensures.live

pub returns-clause-flags : goal.returns-clause-flags
returns-clause-flags c =
    let net = c.args.day.now.net.now in
    let rows = c.args.day.now.rows.now in
    let event = c.args.event in
    let was = c.args.priced.now in
    record {
      passed = ap (λ (p : PricedValue). p.passed) c.set_passed.ensures.passed
          ∙ ap (λ (flags : List Bool). slice_set flags event (has_passed rows event)) (c.set_cancelled.ensures.passed ∙ c.charge_each.ensures.passed);
      cancelled = ap (λ (p : PricedValue). p.cancelled) c.set_passed.ensures.passed ∙ c.set_cancelled.ensures.cancelled
          ∙ ap (λ (flags : List Bool). slice_set flags event (is_cancelled rows event)) c.charge_each.ensures.cancelled;
      charged = subst (λ (flags : List Bool). Charges net rows (LeadsPast net (IsOut rows was.cancelled) event) was.charged flags)
          (sym (ap (λ (p : PricedValue). p.charged) c.set_passed.ensures.passed))
          (charges_past net rows event c.args.into.now was.cancelled was.charged c.charge_each.new.priced.charged c.set_cancelled.new.priced.charged
          c.requires.into c.charge_each.ensures.charged
          (subst (λ (flags : List Bool). Charges net rows (LeadsOut net (IsOut rows flags) event) c.charge_each.new.priced.charged c.set_cancelled.new.priced.charged)
          c.charge_each.ensures.cancelled c.set_cancelled.ensures.charged));
    }
