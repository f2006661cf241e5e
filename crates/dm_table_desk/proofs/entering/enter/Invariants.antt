use Rattle.dm_table_desk.proofs.entering.enter.Given as goal

abbrev pub ghosts-post_with : goal.ghosts-post_with
ghosts-post_with a = record { name = a.blank.name; parts = a.blank.parts }
