use Rattle.dm_follow.proofs.entries.enter_next.Given as goal

abbrev pub ghosts-post_with : goal.ghosts-post_with
ghosts-post_with a = record { name = a.blank.name; parts = a.blank.parts }
