-- The tallies of one thread with many deques.
use Rattle.std.specs.Prelude.{List, [], ◌∷◌}
use Rattle.atomic_blocks.specs.Lent.{RowsId}
use Rattle.dm_deques.specs.Deques.{TallyValue, lending, settled}
use Rattle.dm_deques.specs.Rule.{fresh}

module _ {T : Type 0} where
  abbrev pub deque_of : TallyValue T → RowsId
  deque_of t = t.deque

  -- a new tally of a deque, which has taken nothing; its owner, who has lent one more; and an owner that takes a tally in
  abbrev pub new_tally : RowsId → TallyValue T
  new_tally deque = record { deque = deque; account = fresh }

  abbrev pub having_lent : TallyValue T → TallyValue T
  having_lent o = record o { account = lending o.account }

  abbrev pub settling : TallyValue T → TallyValue T → TallyValue T
  settling o t = record o { account = settled o.account t.account }

  -- each owner takes in the tally at its place
  abbrev pub settling_each : List (TallyValue T) → List (TallyValue T) → List (TallyValue T)
  settling_each [] tallies = []
  settling_each (o ∷ owners) [] = o ∷ owners
  settling_each (o ∷ owners) (t ∷ tallies) = settling o t ∷ settling_each owners tallies
