use Rattle.dm_follow.specs.Follower.{FollowerValue}
use Rattle.dm_journal.proofs.Followed.{carries_all, carries_line, source_stops}
use Rattle.dm_journal.proofs.reading.journal_of.Goals as goal

pub returns-in-Err : goal.returns-in-Err
returns-in-Err g c =
    let f : FollowerValue = c.follow_source.new.follower in
    source_stops g.S.Source.left g.S.Source.is_sound _ _ f f f c.in-Err.fault c.in-Err.ensures

pub returns-in-Some : goal.returns-in-Some
returns-in-Some g c = carries_line _ _ _ _ _ c.in-Some.line c.in-Some.is c.in-Ok.ensures

pub returns : goal.returns
returns g c = carries_all _ _ _ _ _ _ c.in-None.is c.in-Ok.ensures c.followed.ensures
