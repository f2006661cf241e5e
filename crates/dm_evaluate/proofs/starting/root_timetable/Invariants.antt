use Rattle.dm_evaluate.proofs.starting.root_timetable.Given as goal

abbrev pub ghosts-settle : goal.ghosts-settle
ghosts-settle a = record { name = a.blank.name; parts = a.blank.parts }
