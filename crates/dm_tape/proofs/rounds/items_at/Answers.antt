use Rattle.std.proofs.Common.{arith}
use Rattle.dm_text.proofs.Counted.{run_begins, run_ends}
use Rattle.dm_tape.specs.Told.{TellsItem}
use Rattle.dm_tape.proofs.Steps.{items_stop, items_go}
use Rattle.dm_tape.proofs.rounds.items_at.Goals as goal

pub loop-alloc-init : goal.loop-alloc-init
loop-alloc-init c = rw c.new-items.ensures.items (run_begins (λ before. TellsItem) c.args.count c.args.lines.now)

pub returns-in-Err : goal.returns-in-Err
returns-in-Err c = items_stop _ _ _ _ _ c.loop-alloc.invariant (omega arith) c.in-Err.ensures

pub loop-alloc-preserved : goal.loop-alloc-preserved
loop-alloc-preserved c = items_go _ _ _ _ _ _ c.in-Ok.item c.loop-alloc.invariant (omega arith) c.in-Ok.ensures c.in-Ok-push.ensures.items

pub returns : goal.returns
returns c = run_ends (λ before. TellsItem) _ _ _ _ c.loop-alloc.invariant (omega arith)
