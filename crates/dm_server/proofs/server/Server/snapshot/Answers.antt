use Rattle.std.proofs.Common.{◌≡◌, sym, subst}
use Rattle.std.proofs.lemmas.Result.{IfOk-weaker}
use Rattle.dm_rows.specs.Active.{HasNoCycle}
use Rattle.dm_rows.specs.Rows.{RowsValue, IsSized}
use Rattle.dm_server.specs.Answers.{base_of}
use Rattle.dm_server.proofs.After.{holds_given, ok_holds, IsLegalAfter}
use Rattle.dm_server.proofs.server.Server.snapshot.Goals as goal

pub returns-clause-legal : goal.returns-clause-legal
returns-clause-legal g c =
    holds_given IsLegalAfter c.args.pass.now c.take-held.new.pass c.give.new.pass (base_of c.take-held.result.state.table.value) c.take-held.result.state.table.value.history c.take-held.ensures.held c.take-held.ensures.base c.give.ensures c.reveal.ensures.table.legal

pub returns-clause-sized : goal.returns-clause-sized
returns-clause-sized g c =
    let table = c.take-held.result.state.table.value in
    ok_holds (λ base history snapshot. IsSized base.network snapshot.rows) c.args.pass.now c.take-held.new.pass c.give.new.pass (base_of c.take-held.result.state.table.value) c.take-held.result.state.table.value.history c.take-held.ensures.held c.take-held.ensures.base c.give.ensures c.copy-copied.result
    (IfOk-weaker c.copy-copied.result (λ snapshot. snapshot.rows ≡ table.rows) (λ snapshot. IsSized table.network snapshot.rows) (λ snapshot is. subst (λ (rows : RowsValue). IsSized table.network rows) (sym is) c.reveal.ensures.sized) c.copy-copied.ensures.rows)

pub returns-clause-no_cycle : goal.returns-clause-no_cycle
returns-clause-no_cycle g c =
    let table = c.take-held.result.state.table.value in
    ok_holds (λ base history snapshot. HasNoCycle base.network snapshot.rows) c.args.pass.now c.take-held.new.pass c.give.new.pass (base_of c.take-held.result.state.table.value) c.take-held.result.state.table.value.history c.take-held.ensures.held c.take-held.ensures.base c.give.ensures c.copy-copied.result
    (IfOk-weaker c.copy-copied.result (λ snapshot. snapshot.rows ≡ table.rows) (λ snapshot. HasNoCycle table.network snapshot.rows) (λ snapshot is. subst (λ (rows : RowsValue). HasNoCycle table.network rows) (sym is) c.reveal.ensures.table.no_cycle) c.copy-copied.ensures.rows)
