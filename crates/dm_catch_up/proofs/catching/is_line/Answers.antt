use Rattle.dm_catch_up.proofs.Comparing.{says_same}
use Rattle.dm_catch_up.proofs.catching.is_line.Goals as goal

pub returns-in-Line : goal.returns-in-Line
returns-in-Line c = says_same _ _ _ _ c.in-Line.is c.is_same_line.ensures
