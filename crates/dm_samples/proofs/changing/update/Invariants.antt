use Rattle.dm_samples.proofs.changing.update.Given as goal

abbrev pub ghosts-update_with : goal.ghosts-update_with
ghosts-update_with a = record { name = a.blank.name; parts = a.blank.parts }
