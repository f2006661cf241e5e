use Rattle.dm_check_times.proofs.row.row_out_of.Given as goal

abbrev pub ghosts-row_with : goal.ghosts-row_with
ghosts-row_with a = record { name = a.blank.name; parts = a.blank.parts }
