use Rattle.std.proofs.Common.{rules}
use Rattle.dm_part_workers.proofs.Settling.{new_hand}
use Rattle.dm_part_workers.proofs.working.work.Goals as goal

pub loop-try-init : goal.loop-try-init
loop-try-init c = new_hand c.args.thief.now _ (search rules) c.new.ensures.items
