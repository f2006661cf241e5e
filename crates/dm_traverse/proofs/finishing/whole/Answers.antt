use Rattle.std.proofs.Common.{arith}
use Rattle.dm_traverse.proofs.Beside.{nothing_posed, whole_beside}
use Rattle.dm_traverse.proofs.finishing.whole.Goals as goal

pub returns : goal.returns
returns c =
    record {
      posed = record {
        sized = c.requires.sized;
        within = c.requires.penalty;
        few = c.requires.budget;
        decides = nothing_posed _ _;
        as_the_rows = λ k d lt. absurd (omega arith);
      };
      task = whole_beside _ _ _ _;
    }
