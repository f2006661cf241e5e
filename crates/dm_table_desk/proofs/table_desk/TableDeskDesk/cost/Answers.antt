use Rattle.dm_table_desk.proofs.Desks.{tells_cost}
use Rattle.dm_table_desk.proofs.table_desk.TableDeskDesk.cost.Goals as goal

pub returns : goal.returns
returns c = tells_cost c.args.self.now.plans c.args.self.now.table c.cost_now.result c.len.result c.reveal.ensures.table c.len.ensures.count c.cost_now.ensures.cost
