use Rattle.dm_traverse.proofs.walking.violated_in.Given as goal

abbrev pub ghosts-violated_with : goal.ghosts-violated_with
ghosts-violated_with a = record { name = a.blank.name; parts = a.blank.parts }
