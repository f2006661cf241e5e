use Rattle.dm_propagate.proofs.starting.priced_for.Given as goal

abbrev pub ghosts-flag : goal.ghosts-flag
ghosts-flag a = record { name = a.blank.name; parts = a.blank.parts }
