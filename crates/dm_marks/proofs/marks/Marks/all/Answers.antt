use Rattle.dm_marks.proofs.Words.{all_marked}
use Rattle.dm_marks.proofs.marks.Marks.all.Goals as goal

pub returns : goal.returns
returns c = all_marked c.in_ok-marks.marks c.mark_all.new.self c.args.places c.in_ok-marks.ensures c.mark_all.ensures.as_many c.mark_all.ensures.all
