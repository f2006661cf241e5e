use Rattle.dm_table_desk.proofs.table_desk.TableDeskDesk.carry.Goals as goal

pub returns : goal.returns
returns c = c.carry.ensures c.args.self.now.plans
