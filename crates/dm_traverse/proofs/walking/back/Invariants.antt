use Rattle.dm_traverse.proofs.walking.back.Given as goal

abbrev pub ghosts-undecide_with : goal.ghosts-undecide_with
ghosts-undecide_with a = record { name = a.blank.name; parts = a.blank.parts }
