use Rattle.dm_probe.proofs.moving.entering.Given as goal

abbrev pub ghosts-row_into : goal.ghosts-row_into
ghosts-row_into a = record { name = a.blank.name; parts = a.blank.parts }
