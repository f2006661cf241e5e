use Rattle.std.proofs.Common.{List, subst}
use Rattle.dm_rows.specs.declared.messages.Decision.{Decision}
use Rattle.dm_restore.specs.declared.entries.Named.TheVariants.{Carry as OfCarry}
use Rattle.dm_restore.specs.Inside.Entering.{PostsNamed}
use Rattle.dm_restore.proofs.Named.{entry_posts, carry_posts, post_setting, carry_setting}
use Rattle.dm_restore.proofs.entries.post.Goals as goal

pub returns-in-Entry-clause-setting : goal.returns-in-Entry-clause-setting
returns-in-Entry-clause-setting c = post_setting c.args.desk.now.plans c.post.new.self.plans c.args.desk.now.table c.post.new.self.table c.in-Entry.entry c.post.result c.post.ensures

pub returns-in-Carry-clause-setting : goal.returns-in-Carry-clause-setting
returns-in-Carry-clause-setting c =
    carry_setting c.args.desk.now.plans c.carry.new.self.plans c.args.desk.now.table c.carry.new.self.table c.in-Carry.feed c.in-Carry.line c.as_slice.result.now c.carry.result c.carry.ensures

pub returns-in-Entry-clause-posts : goal.returns-in-Entry-clause-posts
returns-in-Entry-clause-posts c =
    rw c.in-Entry.is (entry_posts c.args.desk.now.plans c.post.new.self.plans c.args.desk.now.table c.post.new.self.table c.in-Entry.entry c.post.result c.post.ensures)

pub returns-in-Carry-clause-posts : goal.returns-in-Carry-clause-posts
returns-in-Carry-clause-posts c =
    rw c.in-Carry.is
    (subst (λ (ds : List Decision). PostsNamed c.args.desk.now.table c.carry.new.self.table (OfCarry c.in-Carry.feed c.in-Carry.line ds) c.carry.result) c.as_slice.ensures
    (carry_posts c.args.desk.now.plans c.carry.new.self.plans c.args.desk.now.table c.carry.new.self.table c.in-Carry.feed c.in-Carry.line c.as_slice.result.now c.carry.result c.carry.ensures))
