use Rattle.dm_table_desk.proofs.Desks.{enters, refuses_entry}
use Rattle.dm_table_desk.proofs.table_desk.TableDeskDesk.post.Goals as goal

pub returns-in-Ok : goal.returns-in-Ok
returns-in-Ok c = enters c.args.self.now.plans c.args.self.now.table c.enter.new.table c.args.entry c.in-Ok.number c.in-Ok.ensures.gains

pub returns-in-Err : goal.returns-in-Err
returns-in-Err c =
    refuses_entry c.args.self.now.plans c.args.self.now.table c.enter.new.table c.args.entry c.len-here.result c.in-Err.why c.reveal.ensures.table
    c.in-Err.ensures.stays c.len-here.ensures.count c.in-Err.ensures.refused
