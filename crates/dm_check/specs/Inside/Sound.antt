-- What the numbers of true answers stand on.
use Rattle.std.specs.Prelude.{List}
use Rattle.dm_network.specs.Net.{IsWithinLimits}
use Rattle.dm_network.specs.Start.{IsNetwork}
use Rattle.dm_rows.specs.declared.messages.Entry.{Entry}
use Rattle.dm_rows.specs.Rows.{RowsAreWithinLimits}
use Rattle.dm_rows.specs.History.{IsLegal}
use Rattle.dm_cert.specs.Answers.{Setting}

-- over a network within the limits, whose history is legal from rows within them
pub record IsSound (s : Setting) (history : List Entry) : Type 0 where
  pub network : IsNetwork s.net
  pub limits : IsWithinLimits s.net
  pub start : RowsAreWithinLimits s.start
  pub legal : IsLegal s.net s.start history
