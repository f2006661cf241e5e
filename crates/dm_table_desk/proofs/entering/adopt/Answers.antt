use Rattle.std.proofs.Common.{◌≡◌, ◌<◌, ◌≤◌, List, length, Err, sym, subst, arith}
use Rattle.dm_base.specs.declared.limits.TheConstants.{ENTRIES}
use Rattle.dm_network.specs.Start.{IsNetwork}
use Rattle.dm_rows.specs.declared.messages.Decision.{Decision}
use Rattle.dm_rows.specs.declared.messages.Message.TheVariants.{Adopt}
use Rattle.dm_tree.specs.declared.adopting.AdoptRefusal.{AdoptRefusal}
use Rattle.dm_tree.specs.Plans.{chosen}
use Rattle.dm_desk.specs.Desks.{AdoptsPlan}
use Rattle.dm_table_desk.specs.Tables.{desk_of}
use Rattle.dm_table_desk.specs.Inside.Entering.{Gains, IsRefusedAfter}
use Rattle.dm_table_desk.proofs.Desks.{only_memory, enters_plan, looked}
use Rattle.dm_table_desk.proofs.entering.adopt.Goals as goal

pub want_of_memory-requires : goal.want_of_memory-requires
want_of_memory-requires c =
    let table = c.args.table.now in
    let plan = chosen c.args.entry c.args.choices.now in
    let choices : c.in-Ok.choices ≡ plan.choices = c.in-Ok.ensures in
    let all : length table.history ≤ plan.entry = omega (arith, c.len-now.ensures.count, c.if-entry-now.false) in
    let few : length table.history < ENTRIES = omega (arith, c.len-now.ensures.count, c.len-now.ensures.few, c.if-now-eq-ENTRIES.false) in
    only_memory table plan (subst IsNetwork c.network.ensures c.reveal-2.ensures.network) c.requires all few c.in-Err.why
    (subst (λ (ds : List Decision). IsRefusedAfter table (Adopt ds) c.in-Err.why) choices c.in-Err.ensures.refused)

pub returns-in-Ok-enter : goal.returns-in-Ok-enter
returns-in-Ok-enter c = λ plans.
    let table = c.args.table.now in
    let plan = chosen c.args.entry c.args.choices.now in
    let choices : c.in-Ok.choices ≡ plan.choices = c.in-Ok.ensures in
    let all : length table.history ≤ plan.entry = omega (arith, c.len-now.ensures.count, c.if-entry-now.false) in
    enters_plan plans table c.enter.new.table plan c.args.feed c.args.line c.in-Ok-enter.number c.requires all
    (subst (λ (ds : List Decision). Gains table c.enter.new.table (record { feed = c.args.feed; line = c.args.line; message = Adopt ds }) c.in-Ok-enter.number) choices c.in-Ok-enter.ensures.gains)

pub returns-in-Err : goal.returns-in-Err
returns-in-Err c = λ plans.
    let adopts : AdoptRefusal → Type 0 =
    λ why. AdoptsPlan (desk_of plans c.args.table.now) (desk_of plans c.enter.new.table) (chosen c.args.entry c.args.choices.now) c.args.feed c.args.line (Err why) in
    subst adopts (sym c.want_of_memory.ensures) (looked plans c.args.table.now c.enter.new.table c.reveal.ensures.table c.in-Err.ensures.stays)
