use Rattle.std.proofs.Common.{ap, subst, sym, ◌∙◌}
use Rattle.dm_network.specs.Net.{Net}
use Rattle.dm_rows.specs.Rows.{RowsValue, IsSized}
use Rattle.dm_rows.specs.Carry.{free_among}
use Rattle.dm_table_desk.proofs.Desks.{carry_enters, carry_refused, carry_wants_memory}
use Rattle.dm_table_desk.proofs.entering.carry.Goals as goal

pub free_among-free-requires-clause-sized : goal.free_among-free-requires-clause-sized
free_among-free-requires-clause-sized c =
    subst (λ (n : Net). IsSized n c.rows.result.now) (sym c.network.ensures) (subst (λ (r : RowsValue). IsSized c.args.table.now.network r) (sym c.rows.ensures) c.reveal.ensures.sized)

pub returns-in_default : goal.returns-in_default
returns-in_default c = λ plans. carry_wants_memory plans c.args.table.now c.args.choices.now c.args.feed c.args.line c.len-here.result c.reveal.ensures.table c.len-here.ensures.count

pub returns-in-Ok-enter : goal.returns-in-Ok-enter
returns-in-Ok-enter c = λ plans.
    let same = c.free_among-free.ensures
    ∙ (ap (λ (n : Net). free_among n c.rows.result.now c.args.choices.now) c.network.ensures ∙ ap (λ (r : RowsValue). free_among c.args.table.now.network r c.args.choices.now) c.rows.ensures) in
    carry_enters plans c.args.table.now c.enter.new.table c.args.choices.now c.free_among-free.result c.args.feed c.args.line c.in-Ok-enter.number c.reveal.ensures.table same c.in-Ok-enter.ensures.gains

pub returns-in-Err : goal.returns-in-Err
returns-in-Err c = λ plans.
    let same = c.free_among-free.ensures
    ∙ (ap (λ (n : Net). free_among n c.rows.result.now c.args.choices.now) c.network.ensures ∙ ap (λ (r : RowsValue). free_among c.args.table.now.network r c.args.choices.now) c.rows.ensures) in
    carry_refused plans c.args.table.now c.enter.new.table c.args.choices.now c.free_among-free.result c.args.feed c.args.line c.len-here.result c.in-Err.why c.reveal.ensures.table same
    c.in-Err.ensures.stays c.len-here.ensures.count c.in-Err.ensures.refused
