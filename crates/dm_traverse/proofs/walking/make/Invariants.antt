use Rattle.dm_traverse.proofs.walking.make.Given as goal

abbrev pub ghosts-make_open : goal.ghosts-make_open
ghosts-make_open a = record { name = a.blank.name; parts = a.blank.parts }
