use Rattle.dm_settle.proofs.scratch.least_times.Given as goal

abbrev pub ghosts-settle_all : goal.ghosts-settle_all
ghosts-settle_all a = record { name = a.blank.name; parts = a.blank.parts }
