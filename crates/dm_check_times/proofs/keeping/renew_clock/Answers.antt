use Rattle.dm_check_times.proofs.keeping.renew_clock.Goals as goal

pub returns-clause-moves : goal.returns-clause-moves
returns-clause-moves c = record { mid = c.renew_moved.new.timetable; renews = c.renew_moved.ensures.renews; takes = c.take_clock.ensures.takes }
