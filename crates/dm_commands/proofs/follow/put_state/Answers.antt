use Rattle.std.proofs.Common.{ℕ, List, subst}
use Rattle.dm_outside.specs.Printing.{Puts}
use Rattle.dm_commands.proofs.Questions.{state_same}
use Rattle.dm_commands.proofs.follow.put_state.Goals as goal

pub returns : goal.returns
returns g c =
    subst (λ (text : List ℕ). Puts g.K.Sink.taken g.K.Sink.faults c.args.out.now c.put_parts.new.out c.put_parts.result text)
    (state_same c.args.follower.now c.table-table.result.now _ _ _ _ _ _ c.table-table.ensures c.network-net.ensures c.rows-rows.ensures c.len.ensures.count c.tail.ensures c.times-times.ensures c.cost_now.ensures.cost) c.put_parts.ensures
