use Rattle.std.proofs.Common.{length, arith}
use Rattle.dm_store.proofs.Standing.{all_stand, one_list}
use Rattle.dm_store.proofs.laws.one_list_stands.Goals as goal

pub returns : goal.returns
returns c = record {
  some = λ file short. all_stand (length file) file (omega arith) short;
  one = λ file contents others short a b. one_list contents others file a.end b.end short a.split a.is_end b.split b.is_end;
}
