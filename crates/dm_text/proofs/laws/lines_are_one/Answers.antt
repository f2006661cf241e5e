use Rattle.dm_text.proofs.Judged.{one_line, whole_or_cut}
use Rattle.dm_text.proofs.laws.lines_are_one.Goals as goal

pub returns : goal.returns
returns c = record {
  bytes = λ place one other next behind p q. (one_line place one other next behind p q).bytes;
  next = λ place one other next behind p q. (one_line place one other next behind p q).place;
  whole = whole_or_cut;
}
