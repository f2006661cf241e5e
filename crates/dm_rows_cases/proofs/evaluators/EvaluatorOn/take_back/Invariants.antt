use Rattle.dm_rows_cases.proofs.evaluators.EvaluatorOn.take_back.Given as goal

abbrev pub ghosts-take_back_with : goal.ghosts-take_back_with
ghosts-take_back_with a = record { name = a.blank.name; parts = a.blank.parts }
