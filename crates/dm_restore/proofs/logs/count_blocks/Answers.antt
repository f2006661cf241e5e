use Rattle.dm_restore.proofs.Files.{none_counted, one_counted, all_counted}
use Rattle.dm_restore.proofs.logs.count_blocks.Goals as goal

pub loop-more-init : goal.loop-more-init
loop-more-init c = none_counted c.args.file.now

pub loop-more-preserved : goal.loop-more-preserved
loop-more-preserved c = one_counted c.args.file.now c.loop-more.rest.now c.in-Some.field-0-0.now c.in-Some.more.now c.loop-more.count c.loop-more.invariant c.in-Some.ensures

pub returns-clause-count : goal.returns-clause-count
returns-clause-count c = λ contents stands. all_counted c.args.file.now c.loop-more.rest.now c.loop-more.count c.loop-more.invariant c.requires c.in_default.ensures contents stands
