use Rattle.dm_lives.proofs.Synced.{syncs_safely, taken_now}
use Rattle.dm_lives.proofs.starts.sync_first.Goals as goal

pub returns-clause-taken : goal.returns-clause-taken
returns-clause-taken g c = λ s feeds contents low book read.
    taken_now g.S.Store s feeds contents low book c.args.store.now c.sync.new.self read
    (c.sync.ensures.goes read.told) (c.sync.ensures.told read.told) (c.sync.ensures.seen read.told) c.sync.result (c.sync.ensures.durable read.told)

pub returns-clause-any_moment : goal.returns-clause-any_moment
returns-clause-any_moment g c = λ s feeds contents low book read.
    syncs_safely g.S.Store s feeds contents low book c.args.store.now c.sync.new.self read
    (c.sync.ensures.goes read.told) (λ image left. g.met.S.Store.only_now c.args.store.now image read.told left) (c.sync.ensures.crash read.told)
