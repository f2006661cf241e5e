use Rattle.dm_crew.proofs.desk.ServerDeskDesk.cost.Goals as goal

pub returns : goal.returns
returns g c = c.cost.ensures.tells g.P.Seat.base c.args.self.now.base
