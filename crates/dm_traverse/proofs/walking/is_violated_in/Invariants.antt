use Rattle.dm_traverse.proofs.walking.is_violated_in.Given as goal

abbrev pub ghosts-is_violated_with : goal.ghosts-is_violated_with
ghosts-is_violated_with a = record { name = a.blank.name; parts = a.blank.parts }
