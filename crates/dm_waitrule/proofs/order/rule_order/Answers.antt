use Rattle.std.proofs.Common.{sym, ap, subst, ◌∙◌}
use Rattle.std.proofs.lemmas.Result.{IfOk-weaker}
use Rattle.dm_waitrule.specs.Rules.{IsRuleOrder}
use Rattle.dm_waitrule.specs.Inside.Keyed.{places_of}
use Rattle.dm_waitrule.proofs.Ordered.{in_rule_order}
use Rattle.dm_waitrule.proofs.order.rule_order.Goals as goal

pub returns : goal.returns
returns c =
    IfOk-weaker _ _ _
    (λ order is. subst (IsRuleOrder c.args.net.now c.args.rows.now) (sym (is ∙ ap places_of c.deref.ensures.value))
    (in_rule_order c.args.net.now c.reveal.ensures.network c.args.rows.now c.in_ok-changes.changes.items c.sort.new.changes.items c.in_ok-changes.ensures
    c.sort.ensures.same c.sort.ensures.sorted))
    c.places_of.ensures
