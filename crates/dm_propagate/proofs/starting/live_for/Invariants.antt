use Rattle.dm_propagate.proofs.starting.live_for.Given as goal

abbrev pub ghosts-settle : goal.ghosts-settle
ghosts-settle a = record { name = a.blank.name; parts = a.blank.parts }
