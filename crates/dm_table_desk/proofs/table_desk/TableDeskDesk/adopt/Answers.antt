use Rattle.dm_table_desk.proofs.table_desk.TableDeskDesk.adopt.Goals as goal

pub returns : goal.returns
returns c = c.adopt.ensures c.args.self.now.plans
