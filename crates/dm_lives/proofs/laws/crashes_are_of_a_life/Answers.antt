use Rattle.dm_lives.proofs.Again.{crashed_life}
use Rattle.dm_lives.proofs.laws.crashes_are_of_a_life.Goals as goal

pub returns : goal.returns
returns g c =
    crashed_life g.S.Store (λ store image told left. g.met.S.Store.shows_now store image told left)
    (λ store t image told le left. g.met.S.Store.counts_now store t image told le left)
