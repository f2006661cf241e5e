use Rattle.dm_summary.proofs.entering.enter_line.Given as goal

abbrev pub ghosts-post_with : goal.ghosts-post_with
ghosts-post_with a = record { name = a.blank.name; parts = a.blank.parts }
