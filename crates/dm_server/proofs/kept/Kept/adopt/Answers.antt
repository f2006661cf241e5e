use Rattle.std.proofs.Common.{◌≡◌, ap, ◌<◌, ◌≤◌, List, length, sym, subst, ◌∙◌, arith}
use Rattle.dm_base.specs.declared.limits.TheConstants.{ENTRIES}
use Rattle.dm_network.specs.Start.{IsNetwork}
use Rattle.dm_rows.specs.declared.messages.Decision.{Decision}
use Rattle.dm_rows.specs.declared.messages.Message.TheVariants.{Adopt}
use Rattle.dm_rows.specs.Refuse.{Refuses, RefusesNothing}
use Rattle.dm_table.specs.Value.{TableValue}
use Rattle.dm_tree.specs.Plans.{chosen}
use Rattle.dm_server.specs.Answers.{base_of, rows_after}
use Rattle.dm_server.proofs.After.{never_refused, only_memory}
use Rattle.dm_server.proofs.kept.Kept.adopt.Goals as goal

pub want_of_memory-requires : goal.want_of_memory-requires
want_of_memory-requires c =
    let table = c.args.self.now.table.value in
    let plan = chosen c.args.entry c.args.choices.now in
    let choices : c.in-Ok.choices ≡ plan.choices = c.in-Ok.ensures in
    let network : IsNetwork table.network = subst IsNetwork (c.network.ensures ∙ ap (λ (t : TableValue). t.network) c.deref.ensures) c.reveal.ensures.network in
    let now : c.len-now.result ≡ length table.history = c.len-now.ensures.count ∙ ap (λ (t : TableValue). length t.history) c.deref-2.ensures in
    let all : length table.history ≤ plan.entry = omega (arith, now, c.if-entry-now.false) in
    let few : length table.history < ENTRIES = omega (arith, now, c.len-now.ensures.few, c.if-now-eq-ENTRIES.false) in
    only_memory (base_of table) table.history (Adopt c.in-Ok.choices)
    (subst (λ (ds : List Decision). RefusesNothing (Refuses table.network (rows_after (base_of table) table.history) (length table.history) (Adopt ds))) (sym choices)
    (never_refused (base_of table) table.history plan network c.requires all few)) c.in-Err.refusal c.in-Err.ensures.refused
