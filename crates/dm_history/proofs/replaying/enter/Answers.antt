use Rattle.std.proofs.Common.{◌≡◌, sym, subst}
use Rattle.dm_rows.specs.Resolve.{after}
use Rattle.dm_rows.specs.Rows.{RowsValue}
use Rattle.dm_history.specs.Inside.Entering.{IsKnownFree}
use Rattle.dm_history.proofs.Entered.{applied}
use Rattle.dm_history.proofs.replaying.enter.Goals as goal

pub look_for_cycle-requires-clause-free : goal.look_for_cycle-requires-clause-free
look_for_cycle-requires-clause-free c =
    let is : c.apply.new.self ≡ after c.args.net.now c.args.rows.now c.args.message.now =
    applied c.args.net.now c.args.rows.now c.apply.new.self c.args.message.now c.in-Ok.change c.in-Ok.ensures.named c.apply.ensures.rows in
    subst (λ (rows : RowsValue). IsKnownFree c.args.net.now rows c.stays_free-stays.result) (sym is)
    (c.stays_free-stays.ensures c.args.net.now c.args.rows.now c.requires.sized c.requires.free)
