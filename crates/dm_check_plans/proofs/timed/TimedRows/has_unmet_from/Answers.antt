use Rattle.std.proofs.Common.{refl, sym, ◌∙◌, arith, slice_index}
use Rattle.dm_network.proofs.EventRows.{row_below}
use Rattle.dm_paths.proofs.RowsRead.{unmet_in_row, none_in_row}
use Rattle.dm_check_plans.proofs.timed.TimedRows.has_unmet_from.Goals as goal

pub is_headway_of-requires : goal.is_headway_of-requires
is_headway_of-requires c =
    row_below c.args.self.now.net.now c.args.tail c.row_out_of-row.result.now c.row_out_of-row.ensures c.loop-a.a-index 0 (omega arith)

pub returns-then-comes_too_early : goal.returns-then-comes_too_early
returns-then-comes_too_early c =
    let row = c.row_out_of-row.result.now in
    sym (unmet_in_row c.args.self.now.net.now c.args.self.now.rows.now c.args.self.now.times.now c.args.p c.args.tail row c.row_out_of-row.ensures
    (slice_index row c.loop-a.a-index) c.loop-a.a-index (omega arith) refl
    (sym c.is_headway_of.ensures ∙ c.if-is_headway_of.true) (sym c.comes_too_early.ensures ∙ c.if-comes_too_early.true))

pub returns : goal.returns
returns c =
    sym (none_in_row c.args.self.now.net.now c.args.self.now.rows.now c.args.self.now.times.now c.args.p c.args.tail c.row_out_of-row.result.now c.row_out_of-row.ensures
    (λ k lt. c.loop-a.invariant k (omega arith)))
