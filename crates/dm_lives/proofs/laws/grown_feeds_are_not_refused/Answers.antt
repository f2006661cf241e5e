use Rattle.dm_lives.proofs.Complete.{complete}
use Rattle.dm_lives.proofs.laws.grown_feeds_are_not_refused.Goals as goal

pub returns : goal.returns
returns g c = complete g.S.Store g.T.Growing.given g.T.Growing.faults
