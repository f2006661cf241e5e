use Rattle.dm_crew.proofs.work.Work.worked.Given as goal

abbrev pub ghosts-answer_seated : goal.ghosts-answer_seated
ghosts-answer_seated g a = record { base = g.P.Seat.base; pass = a.pass }
