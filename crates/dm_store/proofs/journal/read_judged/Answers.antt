use Rattle.std.proofs.Common.{◌∙◌, subst}
use Rattle.dm_store.specs.Inside.Stages.{ReadsBlocks}
use Rattle.dm_store.proofs.Sequences.{read_stage}
use Rattle.dm_store.proofs.journal.read_judged.Goals as goal

pub returns-in-Ok-clause-read : goal.returns-in-Ok-clause-read
returns-in-Ok-clause-read g c = λ contents found.
    let same = c.in-Ok.ensures.bytes found.told in
    read_stage g.S.Store.tells g.S.Store.seen g.S.Store.shown g.S.Store.may_leave g.S.Store.moment g.S.Store.left_since contents c.args.store.now c.read.new.self found
    (λ image left. g.met.S.Store.only_now c.args.store.now image found.told left) (λ image left. g.met.S.Store.shows_now c.args.store.now image found.told left)
    (c.read.ensures.told found.told) (c.read.ensures.seen found.told) (c.read.ensures.crash found.told) (c.read.ensures.goes found.told) _
    (subst (λ f. ReadsBlocks contents found.stands.end f c.judged.result) same
    (c.judged.ensures.judged contents (record { end = found.stands.end; split = same ∙ found.stands.split; is_end = found.stands.is_end })))

pub returns-in-Err-Failed-clause-read : goal.returns-in-Err-Failed-clause-read
returns-in-Err-Failed-clause-read g c = λ contents found.
    read_stage g.S.Store.tells g.S.Store.seen g.S.Store.shown g.S.Store.may_leave g.S.Store.moment g.S.Store.left_since contents c.args.store.now c.read.new.self found
    (λ image left. g.met.S.Store.only_now c.args.store.now image found.told left) (λ image left. g.met.S.Store.shows_now c.args.store.now image found.told left)
    (c.read.ensures.told found.told) (c.read.ensures.seen found.told) (c.read.ensures.crash found.told) (c.read.ensures.goes found.told) _ tt

pub returns-in-Err-clause-read : goal.returns-in-Err-clause-read
returns-in-Err-clause-read g c = λ contents found.
    read_stage g.S.Store.tells g.S.Store.seen g.S.Store.shown g.S.Store.may_leave g.S.Store.moment g.S.Store.left_since contents c.args.store.now c.read.new.self found
    (λ image left. g.met.S.Store.only_now c.args.store.now image found.told left) (λ image left. g.met.S.Store.shows_now c.args.store.now image found.told left)
    (c.read.ensures.told found.told) (c.read.ensures.seen found.told) (c.read.ensures.crash found.told) (c.read.ensures.goes found.told) _ tt
