use Rattle.dm_crew.specs.Inside.Seats.{base_in, no_pass}
use Rattle.dm_crew.proofs.day.answer_at_once.Given as goal

abbrev pub ghosts-answer_feeds : goal.ghosts-answer_feeds
ghosts-answer_feeds g a = record { base = base_in a.main.now.base; pass = no_pass }
