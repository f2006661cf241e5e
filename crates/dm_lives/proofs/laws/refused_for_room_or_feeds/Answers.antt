use Rattle.dm_lives.proofs.Refusals.{refused_so}
use Rattle.dm_lives.proofs.laws.refused_for_room_or_feeds.Goals as goal

pub returns : goal.returns
returns g c = refused_so g.S.Store g.T.Growing.given g.T.Growing.faults
