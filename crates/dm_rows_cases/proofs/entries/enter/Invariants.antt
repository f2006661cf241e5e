use Rattle.dm_rows_cases.proofs.entries.enter.Given as goal

abbrev pub ghosts-post : goal.ghosts-post
ghosts-post a = record { name = a.blank.name; parts = a.blank.parts }
