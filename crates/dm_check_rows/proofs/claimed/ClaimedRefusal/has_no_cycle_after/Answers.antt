use Rattle.std.proofs.Common.{subst}
use Rattle.std.specs.Prelude.{IfOk}
use Rattle.dm_rows.specs.Active.{HasNoCycle}
use Rattle.dm_rows.specs.Rows.{RowsValue}
use Rattle.dm_check_rows.specs.Claims.{Tells}
use Rattle.dm_check_rows.proofs.Acceptance.{after_is}
use Rattle.dm_check_rows.proofs.claimed.ClaimedRefusal.has_no_cycle_after.Goals as goal

pub returns-in-Ok : goal.returns-in-Ok
returns-in-Ok c =
    subst (λ (r : RowsValue). IfOk c.has_no_cycle.result (Tells (HasNoCycle c.args.self.now.net.now r)))
    (after_is c.args.self.now.net.now c.args.self.now.rows.now c.in-Ok.after c.args.self.now.message.now c.args.change.now c.requires.named c.in-Ok.ensures.rows) c.has_no_cycle.ensures
