use Rattle.dm_turn.proofs.turn.Turn.add.Given as goal

abbrev pub ghosts-count : goal.ghosts-count
ghosts-count g a = record { history = g.S.HasHistory.history a.state.now }
