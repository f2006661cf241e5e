use Rattle.dm_restore.proofs.Named.{entered_sorted, same_sorted}
use Rattle.dm_restore.proofs.entries.enter.Goals as goal

pub returns-else-wants_memory-clause-enters : goal.returns-else-wants_memory-clause-enters
returns-else-wants_memory-clause-enters c = c.in-Err.ensures.posts.1 (c.wants_memory.ensures c.if-wants_memory.false)

pub returns-in-Ok-clause-sorted : goal.returns-in-Ok-clause-sorted
returns-in-Ok-clause-sorted c = entered_sorted c.args.desk.now.table c.post.new.desk.table c.args.entry c.in-Ok.ensures.posts

pub returns-then-wants_memory-clause-sorted : goal.returns-then-wants_memory-clause-sorted
returns-then-wants_memory-clause-sorted c = λ names. same_sorted c.args.desk.now.table c.post.new.desk.table c.in-Err.ensures.posts.0

pub returns-else-wants_memory-clause-sorted : goal.returns-else-wants_memory-clause-sorted
returns-else-wants_memory-clause-sorted c = λ names. same_sorted c.args.desk.now.table c.post.new.desk.table c.in-Err.ensures.posts.0
