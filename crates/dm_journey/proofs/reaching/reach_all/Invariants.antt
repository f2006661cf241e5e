use Rattle.dm_journey.proofs.reaching.reach_all.Given as goal

abbrev pub ghosts-reach_all_with : goal.ghosts-reach_all_with
ghosts-reach_all_with a = record { name = a.blank.name; parts = a.blank.parts }
