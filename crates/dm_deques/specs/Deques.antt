-- What contracts see of a deque's owner, thieves and tallies.
use Rattle.std.specs.Prelude.{List, ◌++◌, ◌+◌, ◌-◌}
use Rattle.atomic_blocks.specs.Lent.{RowsId}
use Rattle.dm_deques.specs.declared.account.Account.{Account}

-- of which deque an owner or a tally is, and its account
pub record TallyValue (T : Type 0) : Type 0 where
  pub deque : RowsId
  pub account : Account T

module _ {T : Type 0} where
  -- an account that has put, or taken, some tasks more
  abbrev pub having_put : Account T → List T → Account T
  having_put v xs = record v { put = v.put ++ xs }

  abbrev pub having_taken : Account T → List T → Account T
  having_taken v xs = record v { taken = v.taken ++ xs }

  -- the account of an owner that has lent a tally, and of one that took a tally in
  abbrev pub lending : Account T → Account T
  lending v = record v { lent = v.lent + 1 }

  abbrev pub settled : Account T → Account T → Account T
  settled v w = record v { taken = v.taken ++ w.taken; lent = v.lent - 1 }
